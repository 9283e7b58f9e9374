-- What `clap` says of this command, and what a look-up finds.
use Rattle.std.proofs.Common.{◌≡◌, true, false, List, [], ◌∷◌, Option, refl, ap, sym, subst, inl, inr, ◌∙◌, rules, arith}
use Rattle.clap.specs.Walk.{Text, Row, is_empty}
use Rattle.clap.specs.Simple.{App, is_simple, subcommand_of}
use Rattle.clap.specs.Faults.{fault_of, is_simple_and_free}
use Rattle.clap.specs.Kinds.{Kinds, IsAmong, HasKind}
use Rattle.clap.specs.Values.{kind_of}
use Rattle.clap.specs.declared.error.Error.{Error}
use Rattle.clap.specs.declared.error.kind.ErrorKind.{ErrorKind}
use Rattle.clap.specs.declared.error.kind.ErrorKind.TheVariants as kind
use Rattle.clap.proofs.OnLiterals.{clap_on_literals}
use Rattle.command_line.specs.Rules.{cli, is_taken}

pub free : is_simple_and_free cli ≡ true
unfolding cli clap_on_literals
free = refl

pub simple : is_simple cli ≡ true
unfolding cli clap_on_literals
simple = refl

pub taken : (a : App) (words : List Text) → a ≡ cli → (is_simple_and_free a ≡ true → fault_of a words ≡ []) → is_taken words ≡ true
taken a words e =
    subst (λ a. (is_simple_and_free a ≡ true → fault_of a words ≡ []) → is_taken words ≡ true) (sym e) (λ h. ap is_empty (h free))

among : (ks : Kinds) (k : ErrorKind) → IsAmong k ks → is_empty ks ≡ false
among [] k h = absurd h
among (x ∷ xs) k h = search (rules, arith)

refused_at : (words : List Text) (e : Error) (k : ErrorKind) → k ≡ kind_of e → (k ≡ kind.OutOfMemory → ⊥) → HasKind (fault_of cli words) e
    → is_taken words ≡ false
refused_at words e k same other (inl memory) = absurd (other (same ∙ memory))
refused_at words e k same other (inr h) = among (fault_of cli words) (kind_of e) h

pub refused : (a : App) (words : List Text) (e : Error) (k : ErrorKind) → a ≡ cli → k ≡ kind_of e → (k ≡ kind.OutOfMemory → ⊥)
    → (is_simple_and_free a ≡ true → HasKind (fault_of a words) e) → is_taken words ≡ false
refused a words e k is_cli same other =
    subst (λ a. (is_simple_and_free a ≡ true → HasKind (fault_of a words) e) → is_taken words ≡ false) (sym is_cli)
    (λ h. refused_at words e k same other (h free))

pub entered_of : (a : App) (words : List Text) (found : Option (Text × List Row)) → a ≡ cli
    → (is_simple a ≡ true → found ≡ subcommand_of a words) → found ≡ subcommand_of cli words
entered_of a words found e =
    subst (λ a. (is_simple a ≡ true → found ≡ subcommand_of a words) → found ≡ subcommand_of cli words) (sym e) (λ h. h simple)
