pub mod Warming
