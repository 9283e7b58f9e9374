-- What is read by rules keeps them: the endpoint's own keys, each block and each profile.
use Rattle.std.proofs.Common.{Bool, ℕ, ◌≡◌, ◌<◌, ◌≤◌, ◌+◌, ◌-◌, ◌^◌, ◌∙◌, ◌||◌, ◌==◌, true, false, ap, sym, refl, subst, List, [], ◌∷◌}
use Rattle.std.proofs.Common.{length, arith, nat_le, nat_lt, Option, Some, None, option_and_then}
use Rattle.std.specs.Prelude.{Ok, Err, codes, is_some, slice_get, if◌then◌else◌}
use Rattle.std.specs.List.{All, list_all}
use Rattle.std.proofs.lemmas.Bool.{le-leb, leb-true, lt-ltb}
use Rattle.std.proofs.lemmas.List.Elements.{All-cons, All-get_or, All-nil}
use Rattle.std.proofs.lemmas.Option.{get_or_from_slice_get, slice_get_within}
use Rattle.system_stream.specs.Texts.{is_printable}
use Rattle.toml.specs.Data.{Data, Members, as_table}
use Rattle.function_blocks.specs.declared.profiles.PlaceKind.{PlaceKind}
use Rattle.function_blocks.specs.declared.profiles.PlaceKind.TheVariants as kind
use Rattle.function_blocks.specs.declared.rules.Rule.{Rule}
use Rattle.function_blocks.specs.declared.rules.Rule.TheVariants as rule
use Rattle.function_blocks.specs.declared.setup.Block.{Block}
use Rattle.function_blocks.specs.declared.setup.Endpoint.{Endpoint}
use Rattle.function_blocks.specs.declared.setup.Place.{Place}
use Rattle.function_blocks.specs.declared.setup.Place.TheVariants as place
use Rattle.function_blocks.specs.declared.setup.Profile.{Profile}
use Rattle.function_blocks.specs.Blocks.{IsBlock, block_in, has_muid}
use Rattle.function_blocks.specs.Endpoints.{IsEndpoint, endpoint_of, is_supported}
use Rattle.function_blocks.specs.Keys.{each, flag_at, limited_text_at, number_at, numbers_at, short_numbers_at, table_at, text_at}
use Rattle.function_blocks.specs.Profiles.{IsProfile, block_naming_ci, group_of, has_group, has_place, has_place_in, kind_of}
use Rattle.function_blocks.specs.Profiles.{naming_ci, place_of, profile_of}
use Rattle.function_blocks.specs.Rules.{Read, and_then, broken, holds, in_front, needs}
use Rattle.function_blocks.proofs.FitLaws.{number-fits, numbers-fit, same_some, short-fit, some_in, text-fits}

-- ---- what was read by a rule

abbrev read_or : {A : Type 0} → Read A → A → A
read_or (Ok x) y = x
read_or (Err e) y = y

abbrev read_as : {A : Type 0} → A → Read A
read_as x = Ok x

pub same_read : {A : Type 0} (x y : A) → read_as x ≡ read_as y → x ≡ y
same_read x y is = ap (λ r. read_or r x) is

pub held : {B : Type 0} (r : Rule) (test : Bool) (next : Read B) (x : B) → holds r test next ≡ Ok x
    → (test ≡ true) × (next ≡ Ok x)
held r true next x is = (refl, is)
held r false next x is = absurd (let e : Err (broken r) ≡ Ok x = is in cc)

pub read_first : {A B : Type 0} (read : Read A) (next : A → Read B) (x : B) → and_then read next ≡ Ok x
    → (y : A) × (read ≡ Ok y) × (next y ≡ Ok x)
read_first (Ok y) next x is = (y, refl, is)
read_first (Err e) next x is = absurd (let f : Err e ≡ Ok x = is in cc)

pub asked_for : {A B : Type 0} (r : Rule) (o : Option A) (next : A → Read B) (x : B) → needs r o next ≡ Ok x
    → (y : A) × (o ≡ Some y) × (next y ≡ Ok x)
asked_for r (Some y) next x is = (y, refl, is)
asked_for r None next x is = absurd (let e : Err (broken r) ≡ Ok x = is in cc)

-- ---- the entries of a list

pub in_front_of : {A : Type 0} (x : A) (read : Read (List A)) (xs : List A) → in_front x read ≡ Ok xs
    → (ys : List A) × (read ≡ Ok ys) × (x ∷ ys ≡ xs)
in_front_of x (Ok ys) xs is = (ys, refl, same_read (x ∷ ys) xs is)
in_front_of x (Err e) xs is = absurd (let f : Err e ≡ Ok xs = is in cc)

pub each-fits : {A : Type 0} (Fits : A → Type 0) (r : Rule) (read : Members → Read A)
    → ((table : Members) (x : A) → read table ≡ Ok x → Fits x)
    → (values : List Data) (xs : List A) → each r read values ≡ Ok xs → All Fits xs
each-fits Fits r read fits [] xs is = subst (All Fits) (same_read [] xs is) (All-nil Fits)
each-fits Fits r read fits (value ∷ values) xs is =
    let one = read_first (needs r (as_table value) read) (λ x. in_front x (each r read values)) xs is in
    let table = asked_for r (as_table value) read one.0 one.1 in
    let rest = in_front_of one.0 (each r read values) xs one.2 in
    subst (All Fits) rest.2
    (All-cons Fits one.0 rest.0 (fits table.0 one.0 table.2) (each-fits Fits r read fits values rest.0 rest.1))

-- ---- the endpoint's own keys

below-14-bits : (n : ℕ) → n ≤ 16383 → n < 2 ^ 14
below-14-bits n most = omega (arith, most)

pub endpoint-fits : (members : Members) (endpoint : Endpoint) → endpoint_of members ≡ Ok endpoint → IsEndpoint endpoint
endpoint-fits members endpoint is =
    let table = asked_for rule.EndpointIsATable (table_at (codes "endpoint") members) _ endpoint is in
    let name = asked_for rule.NameIsShort (limited_text_at 98 (codes "name") table.0) _ endpoint table.2 in
    let id = asked_for rule.IdIsPrintable (limited_text_at 42 (codes "id") table.0) _ endpoint name.2 in
    let printable = held rule.IdIsPrintable (list_all is_printable id.0) _ endpoint id.2 in
    let manufacturer =
    asked_for rule.ManufacturerIsThreeNumbers (numbers_at 3 127 (codes "manufacturer") table.0) _ endpoint printable.1 in
    let family = asked_for rule.FamilyIsInRange (number_at 0 16383 (codes "family") table.0) _ endpoint manufacturer.2 in
    let model = asked_for rule.ModelIsInRange (number_at 0 16383 (codes "model") table.0) _ endpoint family.2 in
    let revision = asked_for rule.RevisionIsFourNumbers (numbers_at 4 127 (codes "revision") table.0) _ endpoint model.2 in
    let midi1 = asked_for rule.SomeProtocolIsThere (flag_at (codes "midi1") table.0) _ endpoint revision.2 in
    let midi2 = asked_for rule.SomeProtocolIsThere (flag_at (codes "midi2") table.0) _ endpoint midi1.2 in
    let some = held rule.SomeProtocolIsThere (midi1.0 || midi2.0) _ endpoint midi2.2 in
    let protocol = asked_for rule.ProtocolIsThere (number_at 1 2 (codes "protocol") table.0) _ endpoint some.1 in
    let supported = held rule.ProtocolIsThere (is_supported midi1.0 midi2.0 protocol.0) _ endpoint protocol.2 in
    let fixed = asked_for rule.StaticIsAFlag (flag_at (codes "static") table.0) _ endpoint supported.1 in
    let whole : Endpoint =
    record {
      name = name.0;
      id = id.0;
      manufacturer = manufacturer.0;
      family = family.0;
      model = model.0;
      revision = revision.0;
      midi1 = midi1.0;
      midi2 = midi2.0;
      protocol = protocol.0;
      fixed = fixed.0;
    } in
    let named = text-fits 98 (codes "name") table.0 name.0 name.1 in
    let identified = text-fits 42 (codes "id") table.0 id.0 id.1 in
    let family-range = number-fits 0 16383 (codes "family") table.0 family.0 family.1 in
    let model-range = number-fits 0 16383 (codes "model") table.0 model.0 model.1 in
    let fits : IsEndpoint whole = record {
      named = named.0;
      utf8 = named.1;
      identified = identified.0;
      printable = printable.0;
      manufacturer = numbers-fit 3 127 (codes "manufacturer") table.0 manufacturer.0 manufacturer.1;
      family = below-14-bits family.0 family-range.1;
      model = below-14-bits model.0 model-range.1;
      revision = numbers-fit 4 127 (codes "revision") table.0 revision.0 revision.1;
      supported = supported.0;
    } in
    subst (λ e. IsEndpoint e) (same_read whole endpoint fixed.2) fits

-- ---- a block

pub block-fits : (table : Members) (block : Block) → block_in table ≡ Ok block → IsBlock block
block-fits table block is =
    let active = asked_for rule.ActiveIsAFlag (flag_at (codes "active") table) _ block is in
    let name = asked_for rule.BlockNameIsShort (limited_text_at 91 (codes "name") table) _ block active.2 in
    let hint = asked_for rule.HintIsInRange (number_at 0 3 (codes "hint") table) _ block name.2 in
    let midi1 = asked_for rule.Midi1IsInRange (number_at 0 2 (codes "midi1") table) _ block hint.2 in
    let direction = asked_for rule.DirectionIsInRange (number_at 1 3 (codes "direction") table) _ block midi1.2 in
    let first = asked_for rule.FirstIsAGroup (number_at 0 15 (codes "first") table) _ block direction.2 in
    let count = asked_for rule.GroupsEndWithinSixteen (number_at 1 16 (codes "count") table) _ block first.2 in
    let groups = held rule.GroupsEndWithinSixteen (nat_le (first.0 + count.0) 16) _ block count.2 in
    let ci = asked_for rule.CiIsInRange (number_at 0 2 (codes "ci") table) _ block groups.1 in
    let sysex8 = asked_for rule.Sysex8IsInRange (number_at 0 255 (codes "sysex8") table) _ block ci.2 in
    let muids = asked_for rule.MuidsAreInRange (short_numbers_at 16 268435199 (codes "muids") table) _ block sysex8.2 in
    let some = held rule.MuidsAreInRange (has_muid ci.0 muids.0) _ block muids.2 in
    let whole : Block =
    record {
      active = active.0;
      name = name.0;
      hint = hint.0;
      midi1 = midi1.0;
      direction = direction.0;
      first = first.0;
      count = count.0;
      ci = ci.0;
      sysex8 = sysex8.0;
      muids = muids.0;
    } in
    let named = text-fits 91 (codes "name") table name.0 name.1 in
    let few = short-fit 16 268435199 (codes "muids") table muids.0 muids.1 in
    let fits : IsBlock whole = record {
      named = named.0;
      utf8 = named.1;
      hint = (number-fits 0 3 (codes "hint") table hint.0 hint.1).1;
      midi1 = (number-fits 0 2 (codes "midi1") table midi1.0 midi1.1).1;
      direction = number-fits 1 3 (codes "direction") table direction.0 direction.1;
      groups = ((number-fits 1 16 (codes "count") table count.0 count.1).0, leb-true (first.0 + count.0) 16 groups.0);
      ci = (number-fits 0 2 (codes "ci") table ci.0 ci.1).1;
      muids = few.1;
      few_muids = few.0;
      some_muid = some.0;
    } in
    subst (λ b. IsBlock b) (same_read whole block some.1) fits

-- ---- a profile

abbrev EndsWithin : Block → Type 0
EndsWithin block = 0 < block.count

group-fits : (block : Block) (table : Members) (group : ℕ) → EndsWithin block → group_of block table ≡ Some group
    → has_group block group ≡ true
group-fits block table group some is =
    let last : ℕ = block.first + block.count - 1 in
    let range = number-fits block.first last (codes "group") table group is in
    let least : nat_le block.first group ≡ true = le-leb block.first group range.0 in
    let below : group < block.first + block.count = omega (arith, range.1, some) in
    let most : nat_lt group (block.first + block.count) ≡ true = lt-ltb group (block.first + block.count) below in
    rw (least, most) refl

place-fits : (block : Block) (table : Members) (kind : PlaceKind) (p : Place) → EndsWithin block
    → place_of block table kind ≡ Ok p → has_place block p ≡ true
place-fits block table kind.Function p some is = ap (has_place block) (sym (same_read place.Function p is))
place-fits block table kind.Group p some is =
    let group = asked_for rule.GroupIsOfTheBlock (group_of block table) _ p is in
    ap (has_place block) (sym (same_read (place.Group group.0) p group.2)) ∙ group-fits block table group.0 some group.1
place-fits block table kind.Channel p some is =
    let group = asked_for rule.GroupIsOfTheBlock (group_of block table) _ p is in
    let channel = asked_for rule.ChannelIsInRange (number_at 0 15 (codes "channel") table) _ p group.2 in
    ap (has_place block) (sym (same_read (place.Channel group.0 channel.0) p channel.2))
    ∙ group-fits block table group.0 some group.1

named-itself : (b block : Block) → naming_ci b ≡ Some block → b ≡ block
named-itself b block is = go (b.ci == 0) is where
  go : (none : Bool) → (if none then None else Some b) ≡ Some block → b ≡ block
  go true e = absurd (let f : None ≡ Some block = e in cc)
  go false e = same_some b block e

pub profile-fits : (blocks : List Block) → All IsBlock blocks → (table : Members) (profile : Profile)
    → profile_of blocks table ≡ Ok profile → IsProfile blocks profile
profile-fits blocks all table profile is =
    let number = asked_for rule.ProfileBlockNamesCi (number_at 0 31 (codes "block") table) _ profile is in
    let block = asked_for rule.ProfileBlockNamesCi (block_naming_ci blocks number.0) _ profile number.2 in
    let word = asked_for rule.PlaceIsKnown (option_and_then kind_of (text_at (codes "place") table)) _ profile block.2 in
    let at = read_first (place_of block.0 table word.0) _ profile word.2 in
    let id = asked_for rule.ProfileIdIsFiveNumbers (numbers_at 5 127 (codes "id") table) _ profile at.2 in
    let on = asked_for rule.OnIsAFlag (flag_at (codes "on") table) _ profile id.2 in
    let whole : Profile = record { block = number.0; place = at.0; id = id.0; on = on.0 } in
    let found = some_in naming_ci (slice_get blocks number.0) block.0 block.1 in
    let same : found.0 ≡ block.0 = named-itself found.0 block.0 found.2 in
    let there : slice_get blocks number.0 ≡ Some block.0 = found.1 ∙ ap Some same in
    let within : number.0 < length blocks = slice_get_within blocks number.0 block.0 there in
    let is_block : IsBlock block.0 =
    subst (λ b. IsBlock b) (get_or_from_slice_get blocks number.0 block.0 block.0 there)
    (All-get_or (λ b. IsBlock b) blocks number.0 block.0 within all) in
    let fits : IsProfile blocks whole = record {
      block = within;
      names_ci = ap is_some block.1;
      placed = ap (λ b. has_place_in b at.0) there ∙ place-fits block.0 table word.0 at.0 is_block.groups.0 at.1;
    } in
    subst (λ p. IsProfile blocks p) (same_read whole profile on.2) fits
