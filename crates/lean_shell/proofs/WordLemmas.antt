-- What matches ask for is what the words ask for.
use Rattle.std.proofs.Common.{◌≡◌, ⊎_elim, ℕ, List, [], ◌∷◌, Option, Some, None, IfSome, IfNone, refl, sym, ◌∙◌, ap, subst, arith, length, codes, true}
use Rattle.clap.specs.Words.{Row, fault_of, first_of, is_simple_and_free, is_simple, subcommand_of}
use Rattle.clap.specs.Words.{HasKind, IsAmong, kind_of}
use Rattle.clap.specs.declared.error.Error.{Error}
use Rattle.clap.specs.declared.error.ErrorKind.TheVariants.{OutOfMemory}
use Rattle.clap.proofs.OnLiterals.{clap_on_literals}
use Rattle.buffered_engine.specs.disk_format.declared.shape.Shape.{Shape}
use Rattle.buffered_engine.specs.paged_engine.declared.opening.Size.{Size}
use Rattle.lean_shell.specs.Inside.CommandLines.{AsksAs, AsksBy, GivesShape}
use Rattle.lean_shell.specs.Words.{Asks, AsksNothing, Gives, GivesSize, GivesWorkload, IsNumberIn, lean_words}
use Rattle.lean_shell.specs.declared.make.Workload.{Workload}
use Rattle.lean_shell.specs.declared.words.Command.{Command}
use Rattle.lean_shell.specs.declared.words.Command.TheVariants.{Dump, Format, Make, Run}

some_none : {A : Type 0} (x : A) → Some x ≡ None → ⊥
some_none x e = cc

pub some_text : (x y : List ℕ) → Some x ≡ Some y → x ≡ y
some_text x y e = cc

-- ## clap's contracts say which words the command line takes

pub is_exact : is_simple_and_free lean_words ≡ true
unfolding clap_on_literals lean_words
is_exact = refl

pub is_known : is_simple lean_words ≡ true
unfolding clap_on_literals lean_words
is_known = refl

-- ## From matches to words, and back

module _ (words : List (List ℕ)) (met : Option (List ℕ × List Row)) (fits : fault_of lean_words words ≡ []) (is : met ≡ subcommand_of lean_words words) where
  asks : (c : Command) → AsksAs met c → Asks words c
  asks (Format shape) (name, options, there, (named, given)) = record {
    options = options;
    names = record { no_fault = fits; are = sym is ∙ (there ∙ ap (λ (n : List ℕ). Some (n, options)) named) };
    workers = given.workers;
    pages = given.pages;
    blocks = given.blocks;
  }
  asks (Run size) (name, options, there, (named, given)) = record { options = options; names = record { no_fault = fits; are = sym is ∙ (there ∙ ap (λ (n : List ℕ). Some (n, options)) named) }; given = given }
  asks (Make workload) (name, options, there, (named, given)) = record { options = options; names = record { no_fault = fits; are = sym is ∙ (there ∙ ap (λ (n : List ℕ). Some (n, options)) named) }; given = given }
  asks Dump (name, options, there, named) = record { options = options; names = record { no_fault = fits; are = sym is ∙ (there ∙ ap (λ (n : List ℕ). Some (n, options)) named) } }

  asked : (c : Command) → Asks words c → AsksAs met c
  asked (Format shape) a = (codes "format", a.options, is ∙ a.names.are, (refl, record { workers = a.workers; pages = a.pages; blocks = a.blocks }))
  asked (Run size) a = (codes "run", a.options, is ∙ a.names.are, (refl, a.given))
  asked (Make workload) a = (codes "make", a.options, is ∙ a.names.are, (refl, a.given))
  asked Dump a = (codes "dump", a.options, is ∙ a.names.are, refl)

  pub asks_some : (o : Option Command) → IfSome o (AsksAs met) → IfSome o (Asks words)
  asks_some (Some c) a = asks c a
  asks_some None a = tt

  pub asks_none : (o : Option Command) → IfNone o ((c : Command) → AsksAs met c → ⊥) → IfNone o (AsksNothing words)
  asks_none (Some c) a = tt
  asks_none None a = λ c is_asked. a c (asked c is_asked)

-- words with a fault ask for nothing
pub faulty : (words : List (List ℕ)) → (fault_of lean_words words ≡ [] → ⊥) → AsksNothing words
faulty words fault (Format shape) a = fault a.names.no_fault
faulty words fault (Run size) a = fault a.names.no_fault
faulty words fault (Make workload) a = fault a.names.no_fault
faulty words fault Dump a = fault a.names.no_fault

-- ## Options

module _ (options : List Row) (name : List ℕ) (from to : ℕ) where
  pub not_given : (o : Option (List ℕ)) → o ≡ first_of name options → o ≡ None → (n : ℕ) → Gives options name from to n → ⊥
  not_given o first none n g = some_none g.text (sym g.value ∙ (sym first ∙ none))

  pub given : (text : List ℕ) → Some text ≡ first_of name options → (o : Option ℕ) → IfSome o (IsNumberIn from to text) → IfSome o (Gives options name from to)
  given text first (Some n) is = record { text = text; value = sym first; number = is }
  given text first None is = tt

  pub none_given : (text : List ℕ) → Some text ≡ first_of name options → (o : Option ℕ) → IfNone o ((n : ℕ) → IsNumberIn from to text n → ⊥) → IfNone o ((n : ℕ) → Gives options name from to n → ⊥)
  none_given text first (Some n) none = tt
  none_given text first None none = λ n g. none n (subst (λ (t : List ℕ). IsNumberIn from to t n) (some_text g.text text (sym g.value ∙ sym first)) g.number)

pub if_none : {A : Type 0} {P : Type 0} (o : Option A) → P → IfNone o P
if_none None p = p
if_none (Some x) p = tt

-- ## Commands

pub only_format : (name : List ℕ) (options : List Row) → name ≡ codes "format" → ((s : Shape) → GivesShape options s → ⊥) → (c : Command) → AsksBy name options c → ⊥
only_format name options is none (Format shape) a = none shape a.1
only_format name options is none (Run size) a = let e : 6 ≡ 3 = ap length (sym is ∙ a.0) in omega (arith, e)
only_format name options is none (Make workload) a = let e : 6 ≡ 4 = ap length (sym is ∙ a.0) in omega (arith, e)
only_format name options is none Dump a = let e : 6 ≡ 4 = ap length (sym is ∙ a) in omega (arith, e)

pub only_run : (name : List ℕ) (options : List Row) → name ≡ codes "run" → ((s : Size) → GivesSize options s → ⊥) → (c : Command) → AsksBy name options c → ⊥
only_run name options is none (Format shape) a = let e : 3 ≡ 6 = ap length (sym is ∙ a.0) in omega (arith, e)
only_run name options is none (Run size) a = none size a.1
only_run name options is none (Make workload) a = let e : 3 ≡ 4 = ap length (sym is ∙ a.0) in omega (arith, e)
only_run name options is none Dump a = let e : 3 ≡ 4 = ap length (sym is ∙ a) in omega (arith, e)

abbrev first_of_word : List ℕ → ℕ
first_of_word [] = 0
first_of_word (b ∷ bytes) = b

-- nor do these words begin alike
pub not_alike : codes "make" ≡ codes "dump" → ⊥
not_alike same = let e : 109 ≡ 100 = ap first_of_word same in omega (arith, e)

pub only_make : (name : List ℕ) (options : List Row) → name ≡ codes "make" → ((w : Workload) → GivesWorkload options w → ⊥) → (c : Command) → AsksBy name options c → ⊥
only_make name options is none (Format shape) a = let e : 4 ≡ 6 = ap length (sym is ∙ a.0) in omega (arith, e)
only_make name options is none (Run size) a = let e : 4 ≡ 3 = ap length (sym is ∙ a.0) in omega (arith, e)
only_make name options is none (Make workload) a = none workload a.1
only_make name options is none Dump a = not_alike (sym is ∙ a)

-- ## A parse that failed

pub not_taken : (words : List (List ℕ)) (e : Error) → HasKind (fault_of lean_words words) e → (kind_of e ≡ OutOfMemory → ⊥) → AsksNothing words
not_taken words e is not_memory = faulty words (λ none. ⊎_elim not_memory (λ among. subst (IsAmong (kind_of e)) none among) is)

-- ## What was read

pub read_some : (words : List (List ℕ)) (o : Option Command) (x y : Command) → o ≡ Some x → x ≡ y → IfSome o (Asks words) → Asks words y
read_some words o x y is same asks = subst (Asks words) same (subst (λ (p : Option Command). IfSome p (Asks words)) is asks)

pub read_none : (words : List (List ℕ)) (o : Option Command) → o ≡ None → IfNone o (AsksNothing words) → AsksNothing words
read_none words o is nothing = subst (λ (p : Option Command). IfNone p (AsksNothing words)) is nothing
