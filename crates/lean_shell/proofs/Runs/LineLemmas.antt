-- The program's own lines are one line each.
use Rattle.std.proofs.Common.{◌≡◌, ℕ, List, None}
use Rattle.buffered_engine.specs.lean_edge.Outside.{IsLine, IsWholeLine}
use Rattle.script_lang.specs.Notices.{Notice, notice_text, NoticeFits}
use Rattle.script_lang.specs.Replies.{reply_of}
use Rattle.lean_shell.specs.Lines.{line_of}

pub whole_line : ((n : Notice) → NoticeFits n → (reply_of (notice_text n) ≡ None) × IsLine (notice_text n)) → (n : Notice) → NoticeFits n → (bytes : List ℕ) → bytes ≡ line_of n → IsWholeLine bytes
whole_line law n fits bytes is = record { line = notice_text n; is_line = (law n fits).1; is = is }
