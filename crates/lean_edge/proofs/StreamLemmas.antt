-- How what is known of a reader's or a writer's bytes goes on over several calls.
use Rattle.std.proofs.Common.{◌+◌, ◌-◌, ℕ, List, [], ◌++◌, length, take, drop, refl, sym, ◌∙◌, ap, ◌≤◌, append_assoc, length-drop, arith}
use Rattle.std.proofs.Math.Seq.{take-add}
use Rattle.std.proofs.lemmas.List.{append-nil, take_rest}
use Rattle.std.specs.Prelude.{Option, None, Some}
use Rattle.std.specs.Io.KnownBytes.{Appends, Consumes, Keeps}

pub keeps_self : (a : Option (List ℕ)) → Keeps a a
keeps_self None = tt
keeps_self (Some xs) = refl

-- a call that keeps what is known, and then another
pub keeps_then : (a b c : Option (List ℕ)) → Keeps a b → Keeps b c → Keeps a c
keeps_then None b c first second = tt
keeps_then (Some xs) None c first second = absurd first
keeps_then (Some xs) (Some ys) None first second = absurd second
keeps_then (Some xs) (Some ys) (Some zs) first second = second ∙ first

pub keeps_consumes : (a b c : Option (List ℕ)) (bytes : List ℕ) → Keeps a b → Consumes b c bytes → Consumes a c bytes
keeps_consumes None b c bytes first second = tt
keeps_consumes (Some xs) None c bytes first second = absurd first
keeps_consumes (Some xs) (Some ys) None bytes first second = absurd second
keeps_consumes (Some xs) (Some ys) (Some zs) bytes first second = sym first ∙ second

pub appends_none : (a : Option (List ℕ)) → Appends a a []
appends_none None = tt
appends_none (Some xs) = sym (append-nil xs)

pub appends_keeps : (a b c : Option (List ℕ)) (bytes : List ℕ) → Appends a b bytes → Keeps b c → Appends a c bytes
appends_keeps None b c bytes first second = tt
appends_keeps (Some xs) None c bytes first second = absurd first
appends_keeps (Some xs) (Some ys) None bytes first second = absurd second
appends_keeps (Some xs) (Some ys) (Some zs) bytes first second = second ∙ first

-- one piece, and then another
pub appends_then : (a b c : Option (List ℕ)) (some more : List ℕ) → Appends a b some → Appends b c more → Appends a c (some ++ more)
appends_then None b c some more first second = tt
appends_then (Some xs) None c some more first second = absurd first
appends_then (Some xs) (Some ys) None some more first second = absurd second
appends_then (Some xs) (Some ys) (Some zs) some more first second = second ∙ ap (λ (l : List ℕ). l ++ more) first ∙ append_assoc xs some more

-- the prefix of a text, and then some of the rest
pub appends_more : (a b c : Option (List ℕ)) (bytes : List ℕ) (count more : ℕ) → Appends a b (take count bytes) → Appends b c (take more (take (length bytes - count) (drop count bytes))) → Appends a c (take (count + more) bytes)
appends_more a b c bytes count more first second =
    rw (take-add count more bytes) (appends_then a b c (take count bytes) (take more (drop count bytes)) first (rw (take_rest bytes count) at second))

-- what was taken of the rest is no more than there is
pub within_more : (bytes : List ℕ) (count more : ℕ) → count ≤ length bytes → more ≤ length (take (length bytes - count) (drop count bytes)) → count + more ≤ length bytes
within_more bytes count more first second = let rest : more ≤ length bytes - count = rw (take_rest bytes count, length-drop count bytes) at second in omega (arith, first, rest)
