-- The lines of the exclusives that are still begun, group by group.
use Rattle.std.proofs.Common.{◌≡◌, ◌+◌, ◌<◌, ℕ, zero, suc, List, [], ◌∷◌, ◌++◌, take, drop, refl, ap, sym, ◌∙◌, arith}
use Rattle.std.specs.Prelude.{Some}
use Rattle.std.specs.List.{flat_map}
use Rattle.std.specs.Option.{option_map, option_to_list}
use Rattle.std.proofs.lemmas.List.{append-nil, take-append-drop}
use Rattle.std.proofs.Math.Seq.{take-add}
use Rattle.std.proofs.lemmas.List.Concat.{flat_map-append}
use Rattle.sysex_groups.specs.Exclusives.{Part, started}
use Rattle.sysex_groups.specs.Table.{Begun, Table, begun_in}
use Rattle.listing_terms.specs.declared.listed.Kind.TheVariants as kinds
use Rattle.listing_terms.specs.ExclusiveLines.{end_line, groups}
use Rattle.listing_lines.specs.ForProofs.LineLaws.{lines-then}
use Rattle.listing_lines.specs.Lines.{line_puts}
use Rattle.listing_lines.specs.Open.{open_line, open_puts}

-- the groups from one on
from_group : (n : ℕ) → n < 16 → drop n groups ≡ n ∷ drop (n + 1) groups
from_group zero below = refl
from_group (suc zero) below = refl
from_group (suc (suc zero)) below = refl
from_group (suc (suc (suc zero))) below = refl
from_group (suc (suc (suc (suc zero)))) below = refl
from_group (suc (suc (suc (suc (suc zero))))) below = refl
from_group (suc (suc (suc (suc (suc (suc zero)))))) below = refl
from_group (suc (suc (suc (suc (suc (suc (suc zero))))))) below = refl
from_group (suc (suc (suc (suc (suc (suc (suc (suc zero)))))))) below = refl
from_group (suc (suc (suc (suc (suc (suc (suc (suc (suc zero))))))))) below = refl
from_group (suc (suc (suc (suc (suc (suc (suc (suc (suc (suc zero)))))))))) below = refl
from_group (suc (suc (suc (suc (suc (suc (suc (suc (suc (suc (suc zero))))))))))) below = refl
from_group (suc (suc (suc (suc (suc (suc (suc (suc (suc (suc (suc (suc zero)))))))))))) below = refl
from_group (suc (suc (suc (suc (suc (suc (suc (suc (suc (suc (suc (suc (suc zero))))))))))))) below = refl
from_group (suc (suc (suc (suc (suc (suc (suc (suc (suc (suc (suc (suc (suc (suc zero)))))))))))))) below = refl
from_group (suc (suc (suc (suc (suc (suc (suc (suc (suc (suc (suc (suc (suc (suc (suc zero))))))))))))))) below = refl
from_group (suc (suc (suc (suc (suc (suc (suc (suc (suc (suc (suc (suc (suc (suc (suc (suc n)))))))))))))))) below = absurd (omega arith)

pub at_group : (n : ℕ) → n < 16 → groups ≡ take n groups ++ n ∷ drop (n + 1) groups
at_group n below = sym (take-append-drop n groups) ∙ ap (λ more. take n groups ++ more) (from_group n below)

pub next_group : (n : ℕ) → n < 16 → take (n + 1) groups ≡ take n groups ++ n ∷ []
next_group n below = take-add n 1 groups ∙ ap (λ more. take n groups ++ take 1 more) (from_group n below)

pub open-then : (state : Table) (some more : List ℕ) → open_puts state (some ++ more) ≡ open_puts state some ++ open_puts state more
open-then state some more =
    ap line_puts (flat_map-append (λ group. option_to_list (open_line state group)) some more)
    ∙ lines-then (flat_map (λ group. option_to_list (open_line state group)) some)
    (flat_map (λ group. option_to_list (open_line state group)) more)

pub open-one : (state : Table) (group : ℕ) → open_puts state (group ∷ []) ≡ line_puts (option_to_list (open_line state group))
open-one state group = ap line_puts (append-nil (option_to_list (open_line state group)))

-- the groups tell what the parts of the exclusives tell
pub open-ends : (room : ℕ) (parts : List Part) (table : Table)
    (begun : (group : ℕ) → option_map (λ (b : Begun). b.start) (begun_in table group) ≡ started (Some room) group parts) (some : List ℕ)
    → flat_map (λ group. option_to_list (open_line table group)) some
    ≡ flat_map (λ group. option_to_list (end_line (Some room) parts group)) some
open-ends room parts table begun [] = refl
open-ends room parts table begun (group ∷ some) =
    ap (λ o. option_to_list (option_map (λ s. record { offset = s; group = Some group; kind = kinds.OpenExclusive }) o)
    ++ flat_map (λ g. option_to_list (open_line table g)) some)
    (begun group)
    ∙ ap (λ xs. option_to_list (end_line (Some room) parts group) ++ xs) (open-ends room parts table begun some)
