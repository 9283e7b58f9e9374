use Rattle.std.proofs.Common.{◌≡◌, ◌++◌, ℕ, List, length, drop, sym, subst}
use Rattle.std.proofs.lemmas.List.{take-append-drop}
use Rattle.std.specs.Io.{StartsWith}
use Rattle.midi_edge.proofs.adapters.file_shelf.add_front.Goals as goal

has_grown : (old new : List ℕ) → StartsWith new old → (more : List ℕ) × (new ≡ old ++ more)
has_grown old new starts =
    let rest = drop (length old) new in
    (rest, sym (subst (λ front. front ++ rest ≡ new) starts (take-append-drop (length old) new)))

pub returns-in_err-read_to_end-clause-keeps : goal.returns-in_err-read_to_end-clause-keeps
returns-in_err-read_to_end-clause-keeps g c = has_grown _ _ c.read_to_end.ensures.appends

pub returns-clause-keeps : goal.returns-clause-keeps
returns-clause-keeps g c = has_grown _ _ c.read_to_end.ensures.appends
