-- The setup of a text of which the first bytes were read, and what a shelf tells after a fetch.
use Rattle.std.proofs.Common.{◌≡◌, ◌<◌, ℕ, Bool, true, false, nat_le, List, [], length, take, Option}
use Rattle.std.proofs.Common.{None, Some, refl, ap, sym, ◌∙◌, subst, inl, inr, arith, leb-true, leb-false}
use Rattle.std.specs.Prelude.{IfSome, Result, Ok, Err, ◌⊎◌}
use Rattle.std.proofs.lemmas.Bool.{lt-leb}
use Rattle.std.proofs.lemmas.List.{take_all, length-take}
use Rattle.outside.specs.Outside.{Fetches, Rose, kept_bytes}
use Rattle.function_blocks.specs.Rules.{broken, holds}
use Rattle.function_blocks.specs.Setups.{setup_at, setup_of, tree_of}
use Rattle.function_blocks.specs.Setups.{SetupData}
use Rattle.function_blocks.specs.declared.rules.Rule.TheVariants as rule
use Rattle.function_blocks.specs.declared.rules.SetupFault.{SetupFault}
use Rattle.function_blocks.specs.declared.rules.SetupFault.TheVariants.{NoMemory}
use Rattle.pass_loop.specs.Pass.{HasNoRefusal, IsDoneIn, IsDoneUnless, NothingFails, Pass, Seen}
use Rattle.pass_loop.specs.declared.ends.RunEnd.{RunEnd}
use Rattle.midi_commands.specs.Run.{FindsSetup, IsDonePass, IsDoneWith, IsNamed, Objects, ShelfSeen, asked_for, status_after}
use Rattle.midi_commands.specs.declared.status.Status.TheVariants as status

too_long : (text : List ℕ) → nat_le (length text) 65536 ≡ false → setup_of text ≡ Err (broken rule.TextIsShort)
too_long text long = ap (λ short. holds rule.TextIsShort short (setup_at (tree_of text))) long

-- a text of more than 65,536 bytes is no setup, and neither are its first 65,537 bytes; of a shorter one all
-- bytes are read
same_setup : (text : List ℕ) → setup_of (take 65537 text) ≡ setup_of text
same_setup text = by_length (nat_le (length text) 65536) refl
  where
    by_length : (short : Bool) → nat_le (length text) 65536 ≡ short → setup_of (take 65537 text) ≡ setup_of text
    by_length true e = ap setup_of (take_all 65537 text (omega (arith, leb-true (length text) 65536 e)))
    by_length false e =
        let long : 65536 < length text = leb-false (length text) 65536 e in
        let first : nat_le (length (take 65537 text)) 65536 ≡ false =
        lt-leb (length (take 65537 text)) 65536 (omega (arith, length-take 65537 text, long)) in
        too_long (take 65537 text) first ∙ sym (too_long text e)

-- if the shelf tells its texts, this is the text of the name, and its setup is that of the bytes that were
-- read
pub read_setup : (old : ShelfSeen) (name empty into text : List ℕ) → empty ≡ [] → text ≡ into → Fetches old.texts name 65537 empty into
    → (all : List ℕ) × IsNamed old name all × (setup_of all ≡ setup_of text)
read_setup old name empty into text none is fetched =
    let E : List ℕ → Type 0 = λ before. Fetches old.texts name 65537 before into in
    let T : List ℕ → Type 0 = λ after. Fetches old.texts name 65537 [] after in
    by_told old.texts (subst T (sym is) (subst E none fetched))
  where
    by_told : (texts : Option (List ℕ → Option (List ℕ))) → Fetches texts name 65537 [] text
        → (all : List ℕ) × IsNamed (record old { texts = texts }) name all × (setup_of all ≡ setup_of text)
    by_told None fetched = (text, tt, refl)
    by_told (Some texts) fetched = (fetched.0, fetched.1, sym (ap setup_of fetched.2 ∙ same_setup fetched.0))

-- a shelf that was asked for a name
pub shelf_is : (old : ShelfSeen) (name : List ℕ) (asked : Option (List ℕ)) (texts : Option (List ℕ → Option (List ℕ))) (faults : ℕ)
    → asked ≡ Some (kept_bytes name) → texts ≡ old.texts → faults ≡ old.faults
    → record { asked = asked; texts = texts; faults = faults } ≡ asked_for name old
shelf_is old name asked texts faults a t f =
    ap (λ x. made x texts faults) a ∙ ap (λ x. made (Some (kept_bytes name)) x faults) t ∙ ap (made (Some (kept_bytes name)) old.texts) f
  where
    made : Option (List ℕ) → Option (List ℕ → Option (List ℕ)) → ℕ → ShelfSeen
    made asked texts faults = record { asked = asked; texts = texts; faults = faults }

-- the fault of a text that was read, unless memory ran out
pub fault_is : (read : Result SetupData SetupFault) (e f : SetupFault) → e ≡ f → (f ≡ NoMemory → ⊥) → (e ≡ NoMemory) ⊎ (read ≡ Err e)
    → read ≡ Err f
fault_is read e f same some meets =
    elim meets [
      | inl none ↦ absurd (some (sym same ∙ none))
      | inr is ↦ is ∙ ap Err same
    ]

-- ---- a pass with a setup

done_in : (grows : Bool) (end : RunEnd) → IsDoneIn grows end → (status_after end ≡ status.Done) ⊎ (status_after end ≡ status.NoMemory)
done_in false end is = inl (ap status_after is)
done_in true end (inl is) = inl (ap status_after is)
done_in true end (inr is) = inr (ap status_after is)

done_pass : (pass : Pass) (old new : Seen) (end : RunEnd) → IsDoneUnless pass.IsCut pass.work old new end
    → IsDonePass pass old new (status_after end)
done_pass pass old new end unless = by_left old.left unless
  where
    by_left : (left : Option (List ℕ))
        → IfSome left (λ bytes. HasNoRefusal pass.IsCut pass.work bytes → NothingFails old new → IsDoneIn pass.work.grows end)
        → IfSome left (λ bytes. HasNoRefusal pass.IsCut pass.work bytes → NothingFails old new
        → (status_after end ≡ status.Done) ⊎ (status_after end ≡ status.NoMemory))
    by_left None unless = tt
    by_left (Some bytes) unless = λ none well. done_in pass.work.grows end (unless none well)

-- the pass of the setup that was found is done, so that of any setup of the text that the shelf has by the name
pub done_with : (name : List ℕ) (pass : SetupData → Pass) (old new : Objects) (found : SetupData) (end : RunEnd)
    → FindsSetup name old.shelf new.shelf (Ok found) → IsDoneUnless (pass found).IsCut (pass found).work old.seen new.seen end
    → IsDoneWith name pass old new (status_after end)
done_with name pass old new found end finds unless = by_told old.shelf.texts finds.0 finds.1 finds.2
  where
    P : SetupData → Type 0
    P setup = IsDonePass (pass setup) old.seen new.seen (status_after end)

    by_told : (texts : Option (List ℕ → Option (List ℕ))) (text : List ℕ) → IfSome texts (λ texts. texts name ≡ Some text)
        → setup_of text ≡ Ok found
        → IfSome texts (λ texts. (text : List ℕ) (setup : SetupData) → texts name ≡ Some text → setup_of text ≡ Ok setup
        → (Rose old.shelf.faults new.shelf.faults → ⊥) → P setup)
    by_told None text named is = tt
    by_told (Some texts) text named is = λ other setup here its faults.
        let same : found ≡ setup = cc in
        subst P same (done_pass (pass found) old.seen new.seen end unless)
