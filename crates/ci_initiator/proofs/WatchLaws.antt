-- The profiles of watches.
use Rattle.std.proofs.Common.{arith, ◌≡◌, inl, inr, ◌<◌, ◌+◌, ap, sym, refl, subst, ℕ, zero, suc, Bool, true, false, if◌then◌else◌, ◌==◌}
use Rattle.std.proofs.Common.{◌&&◌, nat_le, nat_lt, List, [], ◌∷◌, ◌++◌, slice_get, Option, Some, None, option_map, unwrap_or, true≢false}
use Rattle.std.proofs.lemmas.Bool.{eqb-true, le-leb, lt-ltb}
use Rattle.std.proofs.lemmas.List.Elements.{All-head, All-tail}
use Rattle.std.specs.List.{All, flat_map}
use Rattle.function_blocks.specs.declared.setup.Block.{Block}
use Rattle.function_blocks.specs.declared.setup.Place.{Place}
use Rattle.function_blocks.specs.declared.setup.Place.TheVariants as place
use Rattle.function_blocks.specs.declared.setup.Profile.{Profile}
use Rattle.function_blocks.specs.Blocks.{IsBlock, has_ci}
use Rattle.function_blocks.specs.Profiles.{IsProfile, has_place, has_place_in}
use Rattle.function_blocks.specs.Setups.{SetupData, IsSetup}
use Rattle.ci_responder.specs.declared.keys.Key.{Key}
use Rattle.ci_responder.specs.History.{block_of, covers}
use Rattle.ci_responder.specs.Keys.{key_of}
use Rattle.ci_responder.specs.Laws.{BlockOfIsTheOne}
use Rattle.ci_initiator.specs.declared.watch.Watch.{Watch}
use Rattle.ci_initiator.specs.Course.{key_of_watch}
use Rattle.ci_initiator.specs.Watching.{first_group, first_group_of, has_ci_at, has_ci_in}
use Rattle.ci_initiator.specs.Watching.{watch_at, watch_where, watched_block, watches_of_setup}
use Rattle.ci_initiator.proofs.ListLaws.{IsIn, got-in, place-of}

both : (a b : Bool) → a ≡ true → b ≡ true → (a && b) ≡ true
both true b one other = other
both false b one other = one

all-got : {X : Type 0} (P : X → Type 0) (xs : List X) (n : ℕ) (x : X) → All P xs → slice_get xs n ≡ Some x → P x
all-got P [] n x all is = let e : None ≡ Some x = is in cc
all-got P (y ∷ ys) zero x all is = subst P (ap (λ o. unwrap_or o x) is) (All-head P y ys all)
all-got P (y ∷ ys) (suc n) x all is = all-got P ys n x (All-tail P y ys all) is

-- the watched block has MIDI-CI
watched-has : (blocks : List Block) (ps : List Profile) (n : ℕ) → watched_block blocks ps ≡ Some n → has_ci_at blocks n ≡ true
watched-has blocks [] n is = let e : None ≡ Some n = is in cc
watched-has blocks (p ∷ ps) n is = by (has_ci_at blocks p.block) refl is (watched-has blocks ps n)
  where
    by : (b : Bool) → has_ci_at blocks p.block ≡ b → (if b then Some p.block else watched_block blocks ps) ≡ Some n →
        (watched_block blocks ps ≡ Some n → has_ci_at blocks n ≡ true) → has_ci_at blocks n ≡ true
    by true has some rest =
        let P : ℕ → Type 0 = λ m. has_ci_at blocks m ≡ true in
        subst P (ap (λ o. unwrap_or o n) some) has
    by false none some rest = rest some

-- a watch is of a profile of the watched block
abbrev IsOf : Option ℕ → ℕ → List Profile → Watch → Type 0
IsOf watched first ps watch = (p : Profile) × IsIn p ps × (watched ≡ Some p.block) × (watch ≡ watch_at first p.place p.id)

in-flat : (watched : Option ℕ) (first : ℕ) (ps : List Profile) (watch : Watch) → IsIn watch (flat_map (watch_where watched first) ps)
    → IsOf watched first ps watch
in-flat None first [] watch is = elim is [ ]
in-flat None first (p ∷ ps) watch is =
    let more = in-flat None first ps watch is in
    (more.0, inr more.1, more.2, more.3)
in-flat (Some n) first [] watch is = elim is [ ]
in-flat (Some n) first (p ∷ ps) watch is = by (p.block == n) refl is (in-flat (Some n) first ps watch)
  where
    by : (b : Bool) → (p.block == n) ≡ b
        → IsIn watch ((if b then watch_at first p.place p.id ∷ [] else []) ++ flat_map (watch_where (Some n) first) ps) →
        (IsIn watch (flat_map (watch_where (Some n) first) ps) → IsOf (Some n) first ps watch) → IsOf (Some n) first (p ∷ ps) watch
    by true at (inl same) rest = (p, inl refl, ap Some (sym (eqb-true p.block n at)), same)
    by true at (inr later) rest =
        let more = rest later in
        (more.0, inr more.1, more.2, more.3)
    by false other later rest =
        let more = rest later in
        (more.0, inr more.1, more.2, more.3)

-- its group is one of the block
covers-watch : (first : ℕ) (b : Block) (at : Place) (id : List ℕ) → first ≡ b.first → has_ci b ≡ true → has_place b at ≡ true → IsBlock b
    → covers (watch_at first at id).group b ≡ true
covers-watch first b place.Function id is has placed fits =
    let some : 0 < b.count = fits.groups.0 in
    both (has_ci b) (nat_le b.first first && nat_lt first (b.first + b.count)) has
    (both (nat_le b.first first) (nat_lt first (b.first + b.count))
    (le-leb b.first first (omega (arith, is)))
    (lt-ltb first (b.first + b.count) (omega (arith, is, some))))
covers-watch first b (place.Group group) id is has placed fits =
    both (has_ci b) (nat_le b.first group && nat_lt group (b.first + b.count)) has placed
covers-watch first b (place.Channel group channel) id is has placed fits =
    both (has_ci b) (nat_le b.first group && nat_lt group (b.first + b.count)) has placed

abbrev key-with : Place → List ℕ → ℕ → Key
key-with at id block = record { block = block; place = at; id = record { bytes = id } }

key-at : (setup : SetupData) (first : ℕ) (at : Place) (id : List ℕ) (n : ℕ) → block_of setup (watch_at first at id).group ≡ Some n
    → key_of_watch setup (watch_at first at id) ≡ Some (key-with at id n)
key-at setup first place.Function id n found = ap (option_map (key-with place.Function id)) found
key-at setup first (place.Group group) id n found = ap (option_map (key-with (place.Group group) id)) found
key-at setup first (place.Channel group channel) id n found = ap (option_map (key-with (place.Channel group channel) id)) found

-- so its profile is the setup's
key-of-one : BlockOfIsTheOne → (setup : SetupData) → IsSetup setup → (p : Profile) (first : ℕ) → IsProfile setup.blocks p
    → first ≡ first_group_of (slice_get setup.blocks p.block) →
    has_ci_at setup.blocks p.block ≡ true → key_of_watch setup (watch_at first p.place p.id) ≡ Some (key_of p)
key-of-one law setup fits p first fit is has = by (slice_get setup.blocks p.block) refl is has fit.placed
  where
    by : (o : Option Block) → slice_get setup.blocks p.block ≡ o → first ≡ first_group_of o → has_ci_in o ≡ true
        → has_place_in o p.place ≡ true →
        key_of_watch setup (watch_at first p.place p.id) ≡ Some (key_of p)
    by None at is has placed = absurd (true≢false (sym has))
    by (Some b) at is has placed =
        key-at setup first p.place p.id p.block
        (law.only setup (watch_at first p.place p.id).group p.block b fits.apart at
        (covers-watch first b p.place p.id is has placed (all-got IsBlock setup.blocks p.block b fits.blocks at)))

pub watch-of-setup : BlockOfIsTheOne → (setup : SetupData) → IsSetup setup → (k : ℕ) (watch : Watch)
    → slice_get (watches_of_setup setup) k ≡ Some watch →
    (n : ℕ) × (profile : Profile) × (slice_get setup.profiles n ≡ Some profile) × (key_of_watch setup watch ≡ Some (key_of profile))
watch-of-setup law setup fits k watch is =
    let watched : Option ℕ = watched_block setup.blocks setup.profiles in
    let of : IsOf watched (first_group setup.blocks watched) setup.profiles watch =
    in-flat watched (first_group setup.blocks watched) setup.profiles watch (got-in watch (watches_of_setup setup) k is) in
    let p : Profile = of.0 in
    let at = place-of p setup.profiles of.1 in
    let P : Watch → Type 0 = λ w. key_of_watch setup w ≡ Some (key_of p) in (
      at.0,
      p,
      at.1,
      subst P (sym of.3)
          (key-of-one law setup fits p (first_group setup.blocks watched)
          (all-got (IsProfile setup.blocks) setup.profiles at.0 p fits.profiles at.1)
          (ap (first_group setup.blocks) of.2)
          (watched-has setup.blocks setup.profiles p.block of.2)),
    )
