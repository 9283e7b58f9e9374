-- The same key is an equal key.
use Rattle.std.proofs.Common.{subst, ◌≡◌, ap, sym, refl, Bool, true, false, ◌==◌, ◌&&◌, [], ◌∷◌, ◌++◌, IsTrue, true≢false}
use Rattle.std.proofs.lemmas.Bool.{eqb-true, eq-eqb}
use Rattle.std.proofs.lemmas.Slice.Eq.{bytes_eq-Decides}
use Rattle.std.specs.Cmp.{IsEquivalence, IsPartialEquivalence, decided, partial_equiv_from_equiv}
use Rattle.std.specs.Hash as fed
use Rattle.std.specs.Str.{bytes_eq}
use Rattle.function_blocks.specs.declared.setup.Place.{Place}
use Rattle.function_blocks.specs.declared.setup.Place.TheVariants as place
use Rattle.function_blocks.specs.Profiles.{same_place}
use Rattle.ci_responder.specs.declared.keys.Key.{Key}
use Rattle.ci_responder.specs.Keys.{same_key}

pub left : (a b : Bool) → (a && b) ≡ true → a ≡ true
left true b both = refl
left false b both = both

pub right : (a b : Bool) → (a && b) ≡ true → b ≡ true
right true b both = both
right false b both = absurd (true≢false (sym both))

both : (a b : Bool) → a ≡ true → b ≡ true → (a && b) ≡ true
both true b one other = other
both false b one other = one

place-is : (a b : Place) → same_place a b ≡ true → a ≡ b
place-is place.Function place.Function same = refl
place-is (place.Group g) (place.Group h) same = ap place.Group (eqb-true g h same)
place-is (place.Channel g c) (place.Channel h d) same =
    (λ j. place.Channel (eqb-true g h (left (g == h) (c == d) same) j) (eqb-true c d (right (g == h) (c == d) same) j))
place-is place.Function (place.Group h) same = absurd (true≢false (sym same))
place-is place.Function (place.Channel h d) same = absurd (true≢false (sym same))
place-is (place.Group g) place.Function same = absurd (true≢false (sym same))
place-is (place.Group g) (place.Channel h d) same = absurd (true≢false (sym same))
place-is (place.Channel g c) place.Function same = absurd (true≢false (sym same))
place-is (place.Channel g c) (place.Group h) same = absurd (true≢false (sym same))

place-itself : (a : Place) → same_place a a ≡ true
place-itself place.Function = refl
place-itself (place.Group g) = eq-eqb g g refl
place-itself (place.Channel g c) = both (g == g) (c == c) (eq-eqb g g refl) (eq-eqb c c refl)

-- equal keys are the same key
pub key-is : (a b : Key) → same_key a b ≡ true → a ≡ b
key-is a b same =
    let rest : (same_place a.place b.place && bytes_eq a.id.bytes b.id.bytes) ≡ true = right (a.block == b.block) _ same in
    let block : a.block ≡ b.block = eqb-true a.block b.block (left (a.block == b.block) _ same) in
    let place : a.place ≡ b.place = place-is a.place b.place (left (same_place a.place b.place) _ rest) in
    let id : a.id.bytes ≡ b.id.bytes = (bytes_eq-Decides a.id.bytes b.id.bytes).0 (right (same_place a.place b.place) _ rest) in
    (λ j. record { block = block j; place = place j; id = record { bytes = id j } })

pub key-itself : (a : Key) → same_key a a ≡ true
key-itself a = both (a.block == a.block) _ (eq-eqb a.block a.block refl)
    (both (same_place a.place a.place) _ (place-itself a.place) ((bytes_eq-Decides a.id.bytes a.id.bytes).1 refl))

pub key-equivalence : IsEquivalence same_key
key-equivalence = decided same_key (λ a b. (key-is a b, λ e. subst (λ k. same_key a k ≡ true) e (key-itself a)))

pub same_key_laws : IsPartialEquivalence same_key
same_key_laws = partial_equiv_from_equiv key-equivalence

-- equal keys are hashed alike
pub same_hash : (a b : Key) → IsTrue (same_key a b) → (fed.u8 a.block ++ (a.id.bytes ∷ [])) ≡ (fed.u8 b.block ++ (b.id.bytes ∷ []))
same_hash a b same = ap (λ key. fed.u8 key.block ++ (key.id.bytes ∷ [])) (key-is a b same)
