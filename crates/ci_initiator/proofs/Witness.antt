-- Each state was reported.
use Rattle.std.proofs.Common.{arith, ◌≡◌, ◌∙◌, ◌%◌, length-append, ap, sym, refl, subst, ℕ, suc, Bool, true, false}
use Rattle.std.proofs.Common.{not, cond, if◌then◌else◌, ◌==◌, ◌&&◌, ◌||◌, List, [], ◌∷◌, ◌++◌, length, Option}
use Rattle.std.proofs.Common.{Some, None, is_some, option_map, option_and_then, unwrap_or, replicate, true≢false}
use Rattle.std.proofs.lemmas.Bool.{eqb-true}
use Rattle.std.proofs.lemmas.Slice.Eq.{bytes_eq-Decides}
use Rattle.std.specs.List.{list_any}
use Rattle.std.specs.Str.{bytes_eq}
use Rattle.ci_messages.specs.declared.kind.Kind.TheVariants as kind
use Rattle.ci_messages.specs.declared.view.Address.{Address}
use Rattle.ci_messages.specs.declared.view.Address.TheVariants as address
use Rattle.ci_messages.specs.declared.view.ProfileId.{ProfileId}
use Rattle.ci_messages.specs.Fields.{Value, list, number}
use Rattle.ci_messages.specs.Reading.{address_of}
use Rattle.ci_messages.specs.Writing.{address_number, channels_of}
use Rattle.function_blocks.specs.declared.setup.Place.{Place}
use Rattle.function_blocks.specs.declared.setup.Profile.{Profile}
use Rattle.function_blocks.specs.Profiles.{is_same_profile, profiles_are_distinct, same_place}
use Rattle.function_blocks.specs.Setups.{SetupData}
use Rattle.ci_responder.specs.declared.heard.Heard.{Heard}
use Rattle.ci_responder.specs.declared.heard.Heard.TheVariants as heard
use Rattle.ci_responder.specs.declared.keys.Key.{Key}
use Rattle.ci_responder.specs.History.{accepted_at, accepted_by, block_of, heard_at, heard_with, last_switch, muid_at}
use Rattle.ci_responder.specs.History.{on_at, newer_or, reply_at, sender_at, sender_of_block, spent_at, states_at, switched}
use Rattle.ci_responder.specs.Keys.{first_states, key_of, same_key, state_in}
use Rattle.ci_responder.specs.ForProofs.SameKeys.{key-is, key-itself, left, right}
use Rattle.ci_responder.specs.Messages as said
use Rattle.ci_responder.specs.Messages.{SaidToResponder, Received, key_at, place_at}
use Rattle.ci_responder.specs.Replies.{Sender, payload as reply-bytes, reply_row, ids_of}
use Rattle.ci_responder.specs.Replies.{is_listed, listed, message_of_payload, reply_by, reply_to}
use Rattle.ci_responder.proofs.Histories.{on-same, states_with}
use Rattle.ci_responder.specs.Rows.{broadcast, heard_by, is_answered, is_discovery, is_for, is_invalidate}
use Rattle.ci_responder.specs.Rows.{is_of_another, is_property, is_report, names, heard_row}
use Rattle.ci_initiator.specs.declared.watch.Watch.{Watch}
use Rattle.ci_initiator.specs.Incoming.{lists}
use Rattle.ci_initiator.specs.Incoming as incoming
use Rattle.ci_initiator.specs.Rows.{is_at, same_address, state_told, tells}
use Rattle.ci_initiator.specs.Watching.{HasIds}
use Rattle.ci_initiator.specs.Course.{key_of_watch, was_on}
use Rattle.ci_initiator.proofs.ListLaws.{lists-append}
use Rattle.ci_initiator.proofs.Read.{inventory-is, is-device, is-invalid, is-nak, report-off, report-on, said-endpoint, said as said-by}

-- a Bool that decides between an answer and none
some-then : {A : Type 0} (b : Bool) (o : Option A) (x : A) → (if b then o else None) ≡ Some x → (b ≡ true) × (o ≡ Some x)
some-then true o x is = (refl, is)
some-then false o x is = absurd (true≢false (sym (ap is_some is)))

pub no-some : {A : Type 0} (x : A) → None ≡ Some x → ⊥
no-some x is = true≢false (sym (ap is_some is))

pub some-is : {A : Type 0} (x y : A) → Some x ≡ Some y → x ≡ y
some-is x y is = ap (λ o. unwrap_or o x) is

-- ---- a switch that is answered is named

abbrev answers : Heard → Bool
answers heard.Answered = true
answers _ = false

another : (b : Bool) (first rest : Heard) → answers first ≡ false → (if b then first else rest) ≡ heard.Answered → rest ≡ heard.Answered
another true first rest unlike is = absurd (true≢false (sym (ap answers is) ∙ unlike))
another false first rest unlike is = is

answered-then : (a p : Bool) → (if a then heard.Answered else if p then heard.Passed else heard.Nak) ≡ heard.Answered → a ≡ true
answered-then true p is = refl
answered-then false true is = absurd (true≢false (sym (ap answers is)))
answered-then false false is = absurd (true≢false (sym (ap answers is)))

row-answered : (muid : ℕ) (named : Bool) (message : said.Message) → heard_row muid named message ≡ heard.Answered
    → is_answered named message.said ≡ true
row-answered muid named message is =
    let last : Heard = if is_property message.sub then heard.Passed else heard.Nak in
    let answered : Heard = if is_answered named message.said then heard.Answered else last in
    let to_all : Heard = if message.destination == broadcast && not (is_discovery message.said) then heard.Broadcast else answered in
    let report : Heard = if is_report message.sub then heard.Report else to_all in
    let moved : Heard = if is_invalidate message.said then heard.Moved else report in
    let other : Heard = if is_of_another muid message.said then heard.NotOurs else moved in
    let ours : Heard = if not (is_for muid message.destination) then heard.NotOurs else other in
    let old : Heard = if message.version == 0 then heard.OldVersion else ours in
    answered-then (is_answered named message.said) (is_property message.sub)
    (another (message.destination == broadcast && not (is_discovery message.said)) heard.Broadcast answered refl
    (another (is_report message.sub) heard.Report to_all refl
    (another (is_invalidate message.said) heard.Moved report refl
    (another (is_of_another muid message.said) heard.NotOurs moved refl
    (another (not (is_for muid message.destination)) heard.NotOurs other refl
    (another (message.version == 0) heard.OldVersion ours refl
    (another (message.source == muid) heard.Collision old refl is)))))))

by-muid : (muid : Option ℕ) (named : Bool) (message : said.Message) → heard_by muid named message ≡ heard.Answered
    → is_answered named message.said ≡ true
by-muid None named message is = absurd (true≢false (sym (ap answers is)))
by-muid (Some muid) named message is = row-answered muid named message is

-- ---- keys

named-id : (key : Key) (profiles : List Profile) → HasIds profiles → is_some (state_in (first_states profiles) key) ≡ true
    → length key.id.bytes ≡ 5
named-id key [] five named = absurd (true≢false (sym named))
named-id key (p ∷ ps) five named =
    by (same_key key (key_of p)) refl named (named-id key ps (λ k d within. five (suc k) d (omega (arith, within))))
  where
    by : (b : Bool) → same_key key (key_of p) ≡ b → is_some (cond b (Some p.on) (state_in (first_states ps) key)) ≡ true →
        (is_some (state_in (first_states ps) key) ≡ true → length key.id.bytes ≡ 5) → length key.id.bytes ≡ 5
    by true same named rest = ap (λ k. length k.id.bytes) (key-is key (key_of p) same) ∙ five 0 p (omega arith)
    by false same named rest = rest named

-- a profile that is found is one of the profiles
found : (last : Key → Option Bool) (ps : List Profile) (key : Key) (x : Bool) → state_in (states_with last ps) key ≡ Some x
    → list_any (λ q. same_key key (key_of q)) ps ≡ true
found last [] key x is = absurd (no-some x is)
found last (p ∷ ps) key x is = by (same_key key (key_of p)) is (found last ps key x)
  where
    by : (b : Bool) → cond b (Some (unwrap_or (last (key_of p)) p.on)) (state_in (states_with last ps) key) ≡ Some x →
        (state_in (states_with last ps) key ≡ Some x → list_any (λ q. same_key key (key_of q)) ps ≡ true)
        → (b || list_any (λ q. same_key key (key_of q)) ps) ≡ true
    by true is rest = refl
    by false is rest = rest is

not-is : (b : Bool) → not b ≡ true → b ≡ false
not-is true is = absurd (true≢false (sym is))
not-is false is = refl

-- a profile that is found after another one isn't that one
skipped : (last : Key → Option Bool) (p : Profile) (ps : List Profile) (key : Key) (x : Bool) → profiles_are_distinct (p ∷ ps) ≡ true →
    state_in (states_with last ps) key ≡ Some x → state_in (states_with last (p ∷ ps)) key ≡ Some x
skipped last p ps key x distinct is = by (same_key key (key_of p)) refl
  where
    by : (b : Bool) → same_key key (key_of p) ≡ b
        → cond b (Some (unwrap_or (last (key_of p)) p.on)) (state_in (states_with last ps) key) ≡ Some x
    by false same = is
    by true same =
        let again : list_any (is_same_profile p) ps ≡ true =
        subst (λ k. list_any (λ q. same_key k (key_of q)) ps ≡ true) (key-is key (key_of p) same) (found last ps key x is) in
        let none : list_any (is_same_profile p) ps ≡ false = not-is (list_any (is_same_profile p) ps) (left _ _ distinct) in
        absurd (true≢false (sym again ∙ none))

both : (a b : Bool) → a ≡ true → b ≡ true → (a && b) ≡ true
both true b one other = other
both false b one other = one

is-state : (b v : Bool) → (if b then v else not v) ≡ true → v ≡ b
is-state true v is = is
is-state false v is = not-is v is

-- one more profile
listed-more : (last : Key → Option Bool) (p : Profile) (ps : List Profile) (b : Bool) (n : ℕ) (place : Place) (id : List ℕ)
    → profiles_are_distinct (p ∷ ps) ≡ true → length p.id ≡ 5 →
    (lists id (ids_of b n place (states_with last ps)) ≡ true
    → state_in (states_with last ps) (record { block = n; place = place; id = record { bytes = id } }) ≡ Some b) →
    lists id (ids_of b n place (states_with last (p ∷ ps))) ≡ true
    → state_in (states_with last (p ∷ ps)) (record { block = n; place = place; id = record { bytes = id } }) ≡ Some b
listed-more last p ps b n place id distinct five before is = by (is_listed b n place (key_of p, value)) refl is
  where
    value : Bool
    value = unwrap_or (last (key_of p)) p.on

    key : Key
    key = record { block = n; place = place; id = record { bytes = id } }

    rest : lists id (ids_of b n place (states_with last ps)) ≡ true → state_in (states_with last (p ∷ ps)) key ≡ Some b
    rest later = skipped last p ps key b distinct (before later)

    here : is_listed b n place (key_of p, value) ≡ true → bytes_eq p.id id ≡ true → state_in (states_with last (p ∷ ps)) key ≡ Some b
    here listed same =
        let apart = right (p.block == n) _ listed in
        let is_key : same_key (key_of p) key ≡ true =
        both (p.block == n) _ (left _ _ listed) (both (same_place p.place place) _ (left _ _ apart) same) in
        let this : same_key key (key_of p) ≡ true =
        subst (λ k. same_key k (key_of p) ≡ true) (key-is (key_of p) key is_key) (key-itself (key_of p)) in
        ap (λ c. cond c (Some value) (state_in (states_with last ps) key)) this
        ∙ ap Some (is-state b value (right (same_place p.place place) _ apart))

    either : (c : Bool) → bytes_eq p.id id ≡ c → is_listed b n place (key_of p, value) ≡ true
        → (c || lists id (ids_of b n place (states_with last ps))) ≡ true → state_in (states_with last (p ∷ ps)) key ≡ Some b
    either true same listed is = here listed same
    either false same listed is = rest is

    by : (c : Bool) → is_listed b n place (key_of p, value) ≡ c
        → lists id ((if c then p.id else []) ++ ids_of b n place (states_with last ps)) ≡ true
        → state_in (states_with last (p ∷ ps)) key ≡ Some b
    by false listed is = rest is
    by true listed is =
        either (bytes_eq p.id id) refl listed (sym (lists-append id p.id (ids_of b n place (states_with last ps)) five) ∙ is)

-- a profile whose id is listed as on, or as off, is so
listed-in : (last : Key → Option Bool) (ps : List Profile) (b : Bool) (n : ℕ) (place : Place) (id : List ℕ)
    → profiles_are_distinct ps ≡ true → HasIds ps →
    lists id (ids_of b n place (states_with last ps)) ≡ true
    → state_in (states_with last ps) (record { block = n; place = place; id = record { bytes = id } }) ≡ Some b
listed-in last [] b n place id distinct five is = absurd (true≢false (sym is))
listed-in last (p ∷ ps) b n place id distinct five is =
    listed-more last p ps b n place id distinct (five 0 p (omega arith))
    (listed-in last ps b n place id (right _ _ distinct) (λ k d within. five (suc k) d (omega (arith, within)))) is

-- lists of ids have fives of bytes
fives : (last : Key → Option Bool) (ps : List Profile) (b : Bool) (n : ℕ) (place : Place) → HasIds ps
    → length (ids_of b n place (states_with last ps)) % 5 ≡ 0
fives last [] b n place five = refl
fives last (p ∷ ps) b n place five =
    by (is_listed b n place (key_of p, unwrap_or (last (key_of p)) p.on))
    (fives last ps b n place (λ k d within. five (suc k) d (omega (arith, within))))
  where
    by : (c : Bool) → length (ids_of b n place (states_with last ps)) % 5 ≡ 0
        → length ((if c then p.id else []) ++ ids_of b n place (states_with last ps)) % 5 ≡ 0
    by false later = later
    by true later = omega (arith, later, five 0 p (omega arith), length-append p.id (ids_of b n place (states_with last ps)))

-- ---- addresses

address-is : (a b : Address) → same_address a b ≡ true → a ≡ b
address-is (address.Channel c) (address.Channel d) same = ap address.Channel (eqb-true c d same)
address-is address.Group address.Group same = refl
address-is address.Block address.Block same = refl
address-is (address.Channel c) address.Group same = absurd (true≢false (sym same))
address-is (address.Channel c) address.Block same = absurd (true≢false (sym same))
address-is address.Group (address.Channel d) same = absurd (true≢false (sym same))
address-is address.Group address.Block same = absurd (true≢false (sym same))
address-is address.Block (address.Channel d) same = absurd (true≢false (sym same))
address-is address.Block address.Group same = absurd (true≢false (sym same))

map-some : (on : Bool) (o : Option Bool) → is_some o ≡ true → option_map (unwrap_or (Some on)) o ≡ Some on
map-some on None some = absurd (true≢false (sym some))
map-some on (Some x) some = refl

-- the key of a profile at a place and with an id, by its block
abbrev key-from : Place → ProfileId → Option ℕ → Option Key
key-from place id own = option_map (λ block. record { block = block; place = place; id = id }) own

-- ---- one reply

module _ (setup : SetupData) (distinct : profiles_are_distinct setup.profiles ≡ true) (five : HasIds setup.profiles) (past : List Received)
    (told : Received)
    (read : address_of (address_number told.message.address) ≡ Some told.message.address) (watch : Watch) (on : Bool) where
  -- what is told of the watch is what its place is told
  told-here : (i : incoming.Incoming) → tells i watch ≡ Some on → i.group ≡ told.group
      → i.address ≡ unwrap_or (address_of (address_number told.message.address)) address.Block →
      (watch.group ≡ told.group) × (watch.address ≡ told.message.address) × (state_told watch.id.bytes i.said ≡ Some on)
  told-here i is group place =
      let told-is = some-then (is_at watch i) (state_told watch.id.bytes i.said) on is in (
        eqb-true watch.group i.group (left _ _ told-is.0) ∙ group,
        address-is watch.address i.address (right (watch.group == i.group) _ told-is.0) ∙ place ∙ ap (λ o. unwrap_or o address.Block) read,
        told-is.1,
      )

  nothing : (i : incoming.Incoming) → tells i watch ≡ Some on → state_told watch.id.bytes i.said ≡ None → ⊥
  nothing i is none = no-some on (sym none ∙ (some-then (is_at watch i) (state_told watch.id.bytes i.said) on is).1)

  -- the payload of a reply is that of its row
  as-told : (payload reply : List ℕ) → Some reply ≡ Some payload
      → tells (incoming.incoming_in told.group (message_of_payload payload)) watch ≡ Some on →
      tells (incoming.incoming_in told.group (message_of_payload reply)) watch ≡ Some on
  as-told payload reply is tell =
      let T : List ℕ → Type 0 = λ bytes. tells (incoming.incoming_in told.group (message_of_payload bytes)) watch ≡ Some on in
      subst T (sym (some-is reply payload is)) tell

  -- nothing is told by a reply that tells nothing
  silent : (payload reply : List ℕ) → Some reply ≡ Some payload
      → state_told watch.id.bytes (incoming.incoming_in told.group (message_of_payload reply)).said ≡ None →
      tells (incoming.incoming_in told.group (message_of_payload payload)) watch ≡ Some on → ⊥
  silent payload reply is none tell =
      nothing (incoming.incoming_in told.group (message_of_payload reply)) (as-told payload reply is tell) none

  module _ (n : ℕ) (own : block_of setup told.group ≡ Some n) (answered : heard_at setup past told ≡ heard.Answered) where
    key-of : (id : ProfileId) → watch.group ≡ told.group → watch.address ≡ told.message.address → watch.id.bytes ≡ id.bytes
        → key_of_watch setup watch ≡ Some (key_at n told id)
    key-of id group address same =
        let block : block_of setup watch.group ≡ Some n = ap (block_of setup) group ∙ own in
        (λ j. key-from (place_at (address j) (group j)) (record { bytes = same j }) (block j))

    -- a switch that is answered has set its profile
    switched-on : (id : ProfileId) (to : Bool) → told.message.said ≡ said.switch id to →
        (length id.bytes ≡ 5) × (on_at setup (told ∷ past) (key_at n told id) ≡ Some to)
    switched-on id to is =
        let key : Key = key_at n told id in
        let by_block = sym (ap (λ o. heard_with setup o (spent_at setup past) told) own) ∙ answered in
        let named : is_some (state_in (first_states setup.profiles) key) ≡ true =
        subst (λ s. is_answered (names (first_states setup.profiles) n told s) s ≡ true) is
        (by-muid _ (names (first_states setup.profiles) n told told.message.said) told.message by_block) in
        let accepted : accepted_at setup past told key ≡ Some to =
        (λ j. accepted_by key (own j) (answered j) told)
        ∙ ap (switched key n told) is
        ∙ ap (λ b. if b then Some to else None) (key-itself key) in (
          named-id key setup.profiles five named,
          ap (λ o. option_map (unwrap_or (newer_or o (last_switch setup past key))) (state_in (first_states setup.profiles) key)) accepted
              ∙ map-some to (state_in (first_states setup.profiles) key) named,
        )

    -- a report of a profile that was switched
    reported : (id : ProfileId) (to : Bool) (i : incoming.Incoming) → told.message.said ≡ said.switch id to → tells i watch ≡ Some on
        → i.group ≡ told.group →
        i.address ≡ unwrap_or (address_of (address_number told.message.address)) address.Block
        → (length id.bytes ≡ 5 → i.said ≡ incoming.report id.bytes to) → was_on setup (told ∷ past) watch ≡ Some on
    reported id to i is tell group address said =
        let set = switched-on id to is in
        let at = told-here i tell group address in
        let state = some-then (bytes_eq id.bytes watch.id.bytes) (Some to) on (ap (state_told watch.id.bytes) (sym (said set.0)) ∙ at.2) in
        let same : watch.id.bytes ≡ id.bytes = sym ((bytes_eq-Decides id.bytes watch.id.bytes).0 state.0) in
        ap (option_and_then (on_at setup (told ∷ past))) (key-of id at.0 at.1 same) ∙ set.1 ∙ state.1

    -- an inventory of a place
    counted : (i : incoming.Incoming) → told.message.said ≡ said.profiles → tells i watch ≡ Some on → i.group ≡ told.group →
        i.address ≡ unwrap_or (address_of (address_number told.message.address)) address.Block →
        i.said
        ≡ incoming.inventory (ids_of true n (place_at told.message.address told.group) (states_at setup past setup.profiles))
        (ids_of false n (place_at told.message.address told.group) (states_at setup past setup.profiles)) →
        was_on setup (told ∷ past) watch ≡ Some on
    counted i is tell group address inventory =
        let at = told-here i tell group address in
        let place : Place = place_at told.message.address told.group in
        let key : Key = key_at n told watch.id in
        let states : List (Key × Bool) = states_at setup past setup.profiles in
        let state : state_in states key ≡ Some on =
        by (lists watch.id.bytes (ids_of true n place states)) (lists watch.id.bytes (ids_of false n place states)) refl refl
        (ap (state_told watch.id.bytes) (sym inventory) ∙ at.2) in
        let stays : accepted_at setup past told key ≡ None =
        (λ j. accepted_by key (own j) (answered j) told) ∙ ap (switched key n told) is in
        ap (option_and_then (on_at setup (told ∷ past))) (key-of watch.id at.0 at.1 refl)
        ∙ ap (λ o. option_map (unwrap_or (newer_or o (last_switch setup past key))) (state_in (first_states setup.profiles) key)) stays
        ∙ sym (on_is key) ∙ state
      where
        on_is : (key : Key) → state_in (states_at setup past setup.profiles) key ≡ on_at setup past key
        on_is key = on-same (last_switch setup past) setup.profiles key

        by : (b c : Bool)
            → lists watch.id.bytes (ids_of true n (place_at told.message.address told.group) (states_at setup past setup.profiles)) ≡ b →
            lists watch.id.bytes (ids_of false n (place_at told.message.address told.group) (states_at setup past setup.profiles)) ≡ c →
            (if b then Some true else if c then Some false else None) ≡ Some on
            → state_in (states_at setup past setup.profiles) (key_at n told watch.id) ≡ Some on
        by true c first second is = listed-in (last_switch setup past) setup.profiles true n _ watch.id.bytes distinct five first ∙ is
        by false true first second is = listed-in (last_switch setup past) setup.profiles false n _ watch.id.bytes distinct five second ∙ is
        by false false first second is = absurd (no-some on is)

  module _ (n : ℕ) (muid : ℕ) (own : block_of setup told.group ≡ Some n) where
    abbrev sender : Sender
    sender = sender_at setup 512 past n muid

    -- by the kind of what was heard
    by-said : (payload : List ℕ) (s : SaidToResponder) → told.message.said ≡ s → heard_at setup past told ≡ heard.Answered
        → reply_row sender told s ≡ Some payload →
        tells (incoming.incoming_in told.group (message_of_payload payload)) watch ≡ Some on → was_on setup (told ∷ past) watch ≡ Some on
    by-said payload (said.discovery path) is answered replied tell =
        let values : List Value =
        list sender.identity.manufacturer ∷ list sender.identity.family ∷ list sender.identity.model ∷ list sender.identity.revision
        ∷ number 4 ∷ number sender.room ∷ number path ∷ number sender.block ∷ [] in
        absurd (silent payload (reply-bytes told.message address.Block muid told.message.source kind.DiscoveryReply values) replied
        (ap (state_told watch.id.bytes) (said-by told.group told.message address.Block muid told.message.source 0x71 kind.DiscoveryReply
        kind.DiscoveryReply values is-device))
        tell)
    by-said payload (said.endpoint status) is answered replied tell =
        let values : List Value = number 0 ∷ list sender.product_id ∷ [] in
        absurd (silent payload (reply-bytes told.message told.message.address muid told.message.source kind.EndpointReply values) replied
        (ap (state_told watch.id.bytes) (said-endpoint told.group told.message told.message.address muid told.message.source values)) tell)
    by-said payload said.profiles is answered replied tell =
        let place : Place = place_at told.message.address told.group in
        let on_ids : List ℕ = ids_of true n place (states_at setup past setup.profiles) in
        let off_ids : List ℕ = ids_of false n place (states_at setup past setup.profiles) in
        let reply : List ℕ =
        reply-bytes told.message told.message.address muid told.message.source kind.ProfileReply (list on_ids ∷ list off_ids ∷ []) in
        counted n own answered (incoming.incoming_in told.group (message_of_payload reply)) is (as-told payload reply replied tell) refl
        refl
        (inventory-is told.group told.message told.message.address muid told.message.source on_ids off_ids
        (fives (last_switch setup past) setup.profiles true n place five)
        (fives (last_switch setup past) setup.profiles false n place five))
    by-said payload (said.switch id true) is answered replied tell =
        let values : List Value = list id.bytes ∷ number (channels_of told.message.address) ∷ [] in
        let reply : List ℕ = reply-bytes told.message told.message.address muid broadcast kind.EnabledReport values in
        reported n own answered id true (incoming.incoming_in told.group (message_of_payload reply)) is (as-told payload reply replied tell)
        refl refl
        (report-on told.group told.message told.message.address muid broadcast id.bytes (channels_of told.message.address))
    by-said payload (said.switch id false) is answered replied tell =
        let values : List Value = list id.bytes ∷ number (channels_of told.message.address) ∷ [] in
        let reply : List ℕ = reply-bytes told.message told.message.address muid broadcast kind.DisabledReport values in
        reported n own answered id false (incoming.incoming_in told.group (message_of_payload reply)) is
        (as-told payload reply replied tell) refl refl
        (report-off told.group told.message told.message.address muid broadcast id.bytes (channels_of told.message.address))
    by-said payload (said.invalidate target) is answered replied tell = absurd (no-some payload replied)
    by-said payload said.other is answered replied tell = absurd (no-some payload replied)

    by-heard : (payload : List ℕ) (h : Heard) → heard_at setup past told ≡ h → reply_to sender h told ≡ Some payload →
        tells (incoming.incoming_in told.group (message_of_payload payload)) watch ≡ Some on → was_on setup (told ∷ past) watch ≡ Some on
    by-heard payload heard.Answered is replied tell = by-said payload told.message.said refl is replied tell
    by-heard payload heard.Collision is replied tell =
        let values : List Value = number muid ∷ [] in
        absurd (silent payload (reply-bytes told.message address.Block muid broadcast kind.Invalidate values) replied
        (ap (state_told watch.id.bytes)
        (said-by told.group told.message address.Block muid broadcast 0x7E kind.Invalidate kind.Invalidate values is-invalid))
        tell)
    by-heard payload heard.Nak is replied tell =
        let values : List Value = number told.message.sub ∷ number 0 ∷ number 0 ∷ list (replicate 5 0) ∷ list [] ∷ [] in
        absurd (silent payload (reply-bytes told.message told.message.address muid told.message.source kind.Nak values) replied
        (ap (state_told watch.id.bytes)
        (said-by told.group told.message told.message.address muid told.message.source 0x7F kind.Nak kind.Nak values is-nak))
        tell)
    by-heard payload heard.NoBlock is replied tell = absurd (no-some payload replied)
    by-heard payload heard.Silent is replied tell = absurd (no-some payload replied)
    by-heard payload heard.OldVersion is replied tell = absurd (no-some payload replied)
    by-heard payload heard.NotOurs is replied tell = absurd (no-some payload replied)
    by-heard payload heard.Moved is replied tell = absurd (no-some payload replied)
    by-heard payload heard.Report is replied tell = absurd (no-some payload replied)
    by-heard payload heard.Broadcast is replied tell = absurd (no-some payload replied)
    by-heard payload heard.Passed is replied tell = absurd (no-some payload replied)

  -- What a reply told of a watch was so when the reply was made.
  pub told-was : (payload : List ℕ) → reply_at setup 512 past told ≡ Some payload →
      tells (incoming.incoming_in told.group (message_of_payload payload)) watch ≡ Some on → was_on setup (told ∷ past) watch ≡ Some on
  told-was payload replied tell =
      by-own (block_of setup told.group) refl
      (ap (λ o. reply_by (sender_of_block setup 512 past o) (heard_at setup past told) told) refl ∙ replied)
    where
      with-muid : (n : ℕ) (muid : Option ℕ) → block_of setup told.group ≡ Some n
          → reply_by (option_map (sender_at setup 512 past n) muid) (heard_at setup past told) told ≡ Some payload →
          was_on setup (told ∷ past) watch ≡ Some on
      with-muid n None own is = absurd (no-some payload is)
      with-muid n (Some muid) own is = by-heard n muid own payload (heard_at setup past told) refl is tell

      by-own : (o : Option ℕ) → block_of setup told.group ≡ o
          → reply_by (sender_of_block setup 512 past o) (heard_at setup past told) told ≡ Some payload →
          was_on setup (told ∷ past) watch ≡ Some on
      by-own None own is = absurd (no-some payload is)
      by-own (Some n) own is = with-muid n (muid_at setup past n) own is
