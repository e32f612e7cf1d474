use Rattle.std.proofs.Common.{refl, sym, ◌∙◌, arith, true≢false}
use Rattle.session_state.proofs.Frames.{frame_of}
use Rattle.session_state.proofs.StageLemmas.{first_or, first_set}
use Rattle.session_state.proofs.UndoLemmas.{text_short}
use Rattle.session_state.proofs.work.WorkDraw.stage.Goals as goal

pub returns-in-Ok-clause-stages : goal.returns-in-Ok-clause-stages
returns-in-Ok-clause-stages g c = let e = c.in-Ok.ensures in record {
  came = record {
    entry = c.args.entry.now;
    told = c.one_more-self.ensures;
    after = e.after;
    last = e.last;
    short = text_short c.args.entry.now c.requires.fits;
    stands = e.stands;
    keeps = record {
      on = record { moments = e.any_moment; told = e.told; notes = e.same_notes };
      frame = frame_of c.args.self.now.session.own (g.D.Disk.story c.args.self.now.disk) _ e.frame;
      within = e.within;
    };
  };
  cause = record { later = e.cause_disk_fault.later; cause = λ q. absurd (cc); calm = λ _. e.cause_disk_fault.calm (λ q. true≢false (sym q)) };
  session = first_set c.args.self.now.session _ _;
  first = c.or-self.ensures ∙ first_or c.args.self.now.session.first _ _ c.requires.number;
}

pub returns-in-Err-clause-stages : goal.returns-in-Err-clause-stages
returns-in-Err-clause-stages g c = let e = c.in-Err.ensures in record {
  came = record {
    on = record { moments = e.any_moment; told = e.told; notes = e.same_notes };
    frame = frame_of c.args.self.now.session.own (g.D.Disk.story c.args.self.now.disk) _ e.frame;
    within = e.within;
  };
  cause = record { later = e.cause_disk_fault.later; cause = λ q. e.cause_disk_fault.cause refl; calm = λ no. absurd (no refl) };
  session = refl;
  first = refl;
}

pub returns-then-is_used_up-clause-stages : goal.returns-then-is_used_up-clause-stages
returns-then-is_used_up-clause-stages g c = record {
  came = record { full = c.is_used_up.ensures.full c.if-is_used_up.true; log = refl; disk = refl };
  cause = record { later = omega arith; cause = λ q. absurd (cc); calm = λ _. refl };
  session = refl;
  first = refl;
}
