-- A worker's clock, and what touching a page and drawing a number make of it.
pub use Rattle.flush_avoidance.specs.Clocks.{after_next as drawn, after_touch as touched}
pub use Rattle.flush_avoidance.specs.declared.Clock.{Clock}
