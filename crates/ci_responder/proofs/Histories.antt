-- The state is what the history says.
use Rattle.std.proofs.Common.{subst, arith, ◌≡◌, ◌≤◌, ◌+◌, ◌∙◌, ap, sym, refl, ℕ, zero, suc, Bool, true, false, cond}
use Rattle.std.proofs.Common.{not, ◌==◌, ◌&&◌, ◌||◌, nat_lt, if◌then◌else◌, List, [], ◌∷◌, map, length, slice_get, None}
use Rattle.std.proofs.Common.{Some, Option, is_some, option_map, option_and_then, unwrap_or, true≢false, add-zero}
use Rattle.std.proofs.lemmas.Bool.{eq-eqb, ne_eqb}
use Rattle.std.specs.List.{list_any, position, position_or_len}
use Rattle.std.specs.Map.{set_value}
use Rattle.function_blocks.specs.declared.setup.Block.{Block}
use Rattle.function_blocks.specs.declared.setup.Profile.{Profile}
use Rattle.function_blocks.specs.Profiles.{is_same_profile, profiles_are_distinct}
use Rattle.function_blocks.specs.Setups.{SetupData}
use Rattle.ci_responder.specs.declared.heard.Heard.{Heard}
use Rattle.ci_responder.specs.declared.heard.Heard.TheVariants as heard
use Rattle.ci_responder.specs.declared.keys.Key.{Key}
use Rattle.ci_responder.specs.Keys.{first_states, key_of, same_key, state_in}
use Rattle.ci_responder.specs.ForProofs.SameKeys.{key-is}
use Rattle.ci_responder.specs.Messages.{SaidToResponder, Received, discovery, endpoint, invalidate, profiles, switch, other, key_at}
use Rattle.ci_responder.specs.Rows.{heard_by, loses_muid, names}
use Rattle.ci_responder.specs.Replies.{replies_by, reply_by}
use Rattle.ci_responder.specs.Held.{Held, after, after_for, block_in, change_at, has_group, heard_for, heard_in}
use Rattle.ci_responder.specs.Held.{muid_in, muid_of, next, replies_in, reply_in, sender_in, states_by}
use Rattle.ci_responder.specs.History.{accepted_at, accepted_by, block_of, covers, heard_at, heard_with, responder_at}
use Rattle.ci_responder.specs.History.{kept, kept_from, last_switch, muid_at, muid_with, on_at, newer_or, replies_at}
use Rattle.ci_responder.specs.History.{reply_at, sender_at, sender_of_block, spent_at, spent_more, switched}
use Rattle.ci_responder.proofs.KeyLaws.{others-differ, rest-distinct}

-- blocks
place-kept : (group : ℕ) (spent : ℕ → ℕ) (n : ℕ) (bs : List Block)
    → position_or_len (has_group group) (kept_from n spent bs) ≡ position_or_len (covers group) bs
place-kept group spent n [] = refl
place-kept group spent n (b ∷ bs) = ap (λ rest. cond (not (covers group b)) (1 + rest) 0) (place-kept group spent (n + 1) bs)

length-kept : (spent : ℕ → ℕ) (n : ℕ) (bs : List Block) → length (kept_from n spent bs) ≡ length bs
length-kept spent n [] = refl
length-kept spent n (b ∷ bs) = ap suc (length-kept spent (n + 1) bs)

block-kept : (group : ℕ) (spent : ℕ → ℕ) (n : ℕ) (bs : List Block) → block_in (kept_from n spent bs) group ≡ position (covers group) bs
block-kept group spent n bs =
    λ j. cond (nat_lt (place-kept group spent n bs j) (length-kept spent n bs j)) (Some (place-kept group spent n bs j)) None

slice-kept : (spent : ℕ → ℕ) (n : ℕ) (bs : List Block) (k : ℕ)
    → slice_get (kept_from n spent bs) k ≡ option_map (kept (spent (n + k))) (slice_get bs k)
slice-kept spent n [] k = refl
slice-kept spent n (b ∷ bs) zero = ap (λ m. Some (kept (spent m) b)) (sym (add-zero n))
slice-kept spent n (b ∷ bs) (suc k) =
    let counted : n + 1 + k ≡ n + suc k = omega arith in
    slice-kept spent (n + 1) bs k ∙ ap (λ m. option_map (kept (spent m)) (slice_get bs k)) counted

in-one : (spent : ℕ) (o : Option Block) → option_and_then muid_of (option_map (kept spent) o) ≡ option_and_then (muid_with spent) o
in-one spent None = refl
in-one spent (Some b) = refl

muid-kept : (spent : ℕ → ℕ) (bs : List Block) (k : ℕ)
    → muid_in (kept_from 0 spent bs) k ≡ option_and_then (muid_with (spent k)) (slice_get bs k)
muid-kept spent bs k =
    let counted : 0 + k ≡ k = omega arith in
    ap (option_and_then muid_of) (slice-kept spent 0 bs k)
    ∙ in-one (spent (0 + k)) (slice_get bs k)
    ∙ ap (λ m. option_and_then (muid_with (spent m)) (slice_get bs k)) counted

kept-same : (one two : ℕ → ℕ) (n : ℕ) (bs : List Block) → ((m : ℕ) → n ≤ m → one m ≡ two m) → kept_from n one bs ≡ kept_from n two bs
kept-same one two n [] same = refl
kept-same one two n (b ∷ bs) same =
    (λ j. kept (same n (omega arith) j) b ∷ kept-same one two (n + 1) bs (λ m later. same m (omega (arith, later))) j)

change-kept : (one two : ℕ → ℕ) (n k : ℕ) (bs : List Block) → one (n + k) + 1 ≡ two (n + k) → ((m : ℕ) → (m ≡ n + k → ⊥) → one m ≡ two m) →
    change_at next k (kept_from n one bs) ≡ kept_from n two bs
change-kept one two n k [] changed same = refl
change-kept one two n zero (b ∷ bs) changed same =
    let counted : n + 0 ≡ n = add-zero n in
    let here : one n + 1 ≡ two n = subst (λ m. one m + 1 ≡ two m) counted changed in
    (λ j. kept (here j) b ∷ kept-same one two (n + 1) bs (λ m later. same m (λ e. omega (arith, e, later, counted))) j)
change-kept one two n (suc k) (b ∷ bs) changed same =
    let counted : n + suc k ≡ n + 1 + k = omega arith in
    (λ j. kept (same n (λ e. omega (arith, e)) j) b
    ∷ change-kept one two (n + 1) k bs (subst (λ m. one m + 1 ≡ two m) counted changed) (λ m away. same m (λ e. away (e ∙ counted))) j)

more-at : (k m spent : ℕ) → (k == m) ≡ true → spent + 1 ≡ (if (k == m) && true then spent + 1 else spent)
more-at k m spent e = ap (λ b. if b && true then spent + 1 else spent) (sym e)

same-at : (k m spent : ℕ) → (k == m) ≡ false → spent ≡ (if (k == m) && true then spent + 1 else spent)
same-at k m spent e = ap (λ b. if b && true then spent + 1 else spent) (sym e)

none-at : (b : Bool) (spent : ℕ) → spent ≡ (if b && false then spent + 1 else spent)
none-at true spent = refl
none-at false spent = refl

blocks-by : (loses : Bool) (spent : ℕ → ℕ) (k : ℕ) (bs : List Block) →
    (if loses then change_at next k (kept_from 0 spent bs) else kept_from 0 spent bs)
    ≡ kept_from 0 (λ m. if (k == m) && loses then spent m + 1 else spent m) bs
blocks-by true spent k bs =
    let counted : 0 + k ≡ k = omega arith in
    change-kept spent (λ m. if (k == m) && true then spent m + 1 else spent m) 0 k bs
    (more-at k (0 + k) (spent (0 + k)) (eq-eqb k (0 + k) (sym counted)))
    (λ m away. same-at k m (spent m) (ne_eqb k m (λ e. away (sym e ∙ sym counted))))
blocks-by false spent k bs =
    kept-same spent (λ m. if (k == m) && false then spent m + 1 else spent m) 0 bs (λ m later. none-at (k == m) (spent m))

-- profiles
abbrev pub states_with : (Key → Option Bool) → List Profile → List (Key × Bool)
states_with last ps = map (λ p. (key_of p, unwrap_or (last (key_of p)) p.on)) ps

named-by : (b one two : Bool) (some before : Option Bool) → is_some some ≡ is_some before
    → is_some (cond b (Some one) some) ≡ is_some (cond b (Some two) before)
named-by true one two some before same = refl
named-by false one two some before same = same

named-same : (last : Key → Option Bool) (ps : List Profile) (key : Key)
    → is_some (state_in (states_with last ps) key) ≡ is_some (state_in (first_states ps) key)
named-same last [] key = refl
named-same last (p ∷ ps) key =
    named-by (same_key key (key_of p)) (unwrap_or (last (key_of p)) p.on) p.on (state_in (states_with last ps) key)
    (state_in (first_states ps) key) (named-same last ps key)

names-same : (last : Key → Option Bool) (ps : List Profile) (block : ℕ) (received : Received) (said : SaidToResponder)
    → names (states_with last ps) block received said ≡ names (first_states ps) block received said
names-same last ps block received (switch id on) = named-same last ps (key_at block received id)
names-same last ps block received (discovery path) = refl
names-same last ps block received (endpoint status) = refl
names-same last ps block received (invalidate target) = refl
names-same last ps block received profiles = refl
names-same last ps block received other = refl

on-by : (last : Key → Option Bool) (key here : Key) (on : Bool) (b : Bool) → same_key key here ≡ b → (some before : Option Bool)
    → some ≡ option_map (unwrap_or (last key)) before →
    cond b (Some (unwrap_or (last here) on)) some ≡ option_map (unwrap_or (last key)) (cond b (Some on) before)
on-by last key here on true same some before rest = ap (λ k. Some (unwrap_or (last k) on)) (sym (key-is key here same))
on-by last key here on false same some before rest = rest

-- the state of a profile is its last switch, or the setup's
pub on-same : (last : Key → Option Bool) (ps : List Profile) (key : Key)
    → state_in (states_with last ps) key ≡ option_map (unwrap_or (last key)) (state_in (first_states ps) key)
on-same last [] key = refl
on-same last (p ∷ ps) key =
    on-by last key (key_of p) p.on (same_key key (key_of p)) refl (state_in (states_with last ps) key) (state_in (first_states ps) key)
    (on-same last ps key)

abbrev by_switch : Key → Bool → (Key → Option Bool) → Key → Option Bool
by_switch key on last k = newer_or (if same_key key k then Some on else None) (last k)

or-left : (a b : Bool) → (a || b) ≡ false → a ≡ false
or-left false b is = refl
or-left true b is = is

or-right : (a b : Bool) → (a || b) ≡ false → b ≡ false
or-right false b is = is
or-right true b is = absurd (true≢false is)

untouched-head : (b on old : Bool) (last : Option Bool) → b ≡ false
    → unwrap_or last old ≡ unwrap_or (newer_or (if b then Some on else None) last) old
untouched-head b on old last e = ap (λ c. unwrap_or (newer_or (if c then Some on else None) last) old) (sym e)

-- profiles of other keys stay
untouched : (key : Key) (on : Bool) (last : Key → Option Bool) (ps : List Profile) → list_any (λ q. same_key key (key_of q)) ps ≡ false
    → states_with last ps ≡ states_with (by_switch key on last) ps
untouched key on last [] none = refl
untouched key on last (p ∷ ps) none =
    (λ j. (
      key_of p,
      untouched-head (same_key key (key_of p)) on p.on (last (key_of p))
          (or-left (same_key key (key_of p)) (list_any (λ q. same_key key (key_of q)) ps) none) j,
    )
    ∷ untouched key on last ps (or-right (same_key key (key_of p)) (list_any (λ q. same_key key (key_of q)) ps) none) j)

switch-by : (key : Key) (on : Bool) (last : Key → Option Bool) (p : Profile) (ps : List Profile) (b : Bool) → same_key key (key_of p) ≡ b
    → list_any (is_same_profile p) ps ≡ false →
    set_value (same_key key) (states_with last ps) on ≡ states_with (by_switch key on last) ps →
    cond b ((key_of p, on) ∷ states_with last ps)
    ((key_of p, unwrap_or (last (key_of p)) p.on) ∷ set_value (same_key key) (states_with last ps) on)
    ≡ (key_of p, unwrap_or (newer_or (if b then Some on else None) (last (key_of p))) p.on) ∷ states_with (by_switch key on last) ps
switch-by key on last p ps true same others rest =
    let none : list_any (λ q. same_key key (key_of q)) ps ≡ false =
    subst (λ k. list_any (λ q. same_key k (key_of q)) ps ≡ false) (sym (key-is key (key_of p) same)) others in
    ap (λ es. (key_of p, on) ∷ es) (untouched key on last ps none)
switch-by key on last p ps false same others rest = ap (λ es. (key_of p, unwrap_or (last (key_of p)) p.on) ∷ es) rest

-- a switch sets its own key
switch-sets : (key : Key) (on : Bool) (last : Key → Option Bool) (ps : List Profile) → profiles_are_distinct ps ≡ true →
    set_value (same_key key) (states_with last ps) on ≡ states_with (by_switch key on last) ps
switch-sets key on last [] distinct = refl
switch-sets key on last (p ∷ ps) distinct =
    switch-by key on last p ps (same_key key (key_of p)) refl (others-differ p ps distinct)
    (switch-sets key on last ps (rest-distinct p ps distinct))

answered-by : (said : SaidToResponder) (block : ℕ) (received : Received) (last : Key → Option Bool) (ps : List Profile)
    → profiles_are_distinct ps ≡ true →
    states_by heard.Answered said block received (states_with last ps)
    ≡ states_with (λ key. newer_or (switched key block received said) (last key)) ps
answered-by (switch id on) block received last ps distinct = switch-sets (key_at block received id) on last ps distinct
answered-by (discovery path) block received last ps distinct = refl
answered-by (endpoint status) block received last ps distinct = refl
answered-by (invalidate target) block received last ps distinct = refl
answered-by profiles block received last ps distinct = refl
answered-by other block received last ps distinct = refl

states-by : (h : Heard) (block : ℕ) (received : Received) (last : Key → Option Bool) (ps : List Profile) → profiles_are_distinct ps ≡ true →
    states_by h received.message.said block received (states_with last ps)
    ≡ states_with (λ key. newer_or (accepted_by key (Some block) h received) (last key)) ps
states-by heard.Answered block received last ps distinct = answered-by received.message.said block received last ps distinct
states-by heard.NoBlock block received last ps distinct = refl
states-by heard.Silent block received last ps distinct = refl
states-by heard.Collision block received last ps distinct = refl
states-by heard.OldVersion block received last ps distinct = refl
states-by heard.NotOurs block received last ps distinct = refl
states-by heard.Moved block received last ps distinct = refl
states-by heard.Report block received last ps distinct = refl
states-by heard.Broadcast block received last ps distinct = refl
states-by heard.Passed block received last ps distinct = refl
states-by heard.Nak block received last ps distinct = refl

module _ (setup : SetupData) (room : ℕ) (past : List Received) where
  pub muid_follows : (block : ℕ) → muid_in (responder_at setup room past).blocks block ≡ muid_at setup past block
  muid_follows block = muid-kept (spent_at setup past) setup.blocks block

  pub on_follows : (key : Key) → state_in (responder_at setup room past).states key ≡ on_at setup past key
  on_follows key = on-same (last_switch setup past) setup.profiles key

  own-block : (group : ℕ) → block_in (responder_at setup room past).blocks group ≡ block_of setup group
  own-block group = block-kept group (spent_at setup past) 0 setup.blocks

  heard-with : (received : Received) (own : Option ℕ)
      → heard_for (responder_at setup room past) received own ≡ heard_with setup own (spent_at setup past) received
  heard-with received None = refl
  heard-with received (Some block) =
      (λ j. heard_by (muid_follows block j) (names-same (last_switch setup past) setup.profiles block received received.message.said j)
      received.message)

  pub heard_follows : (received : Received) → heard_in (responder_at setup room past) received ≡ heard_at setup past received
  heard_follows received =
      ap (heard_for (responder_at setup room past) received) (own-block received.group)
      ∙ heard-with received (block_of setup received.group)

  sender-follows : (own : Option ℕ) → sender_in (responder_at setup room past) own ≡ sender_of_block setup room past own
  sender-follows None = refl
  sender-follows (Some block) = ap (option_map (sender_at setup room past block)) (muid_follows block)

  pub reply_follows : (received : Received) → reply_in (responder_at setup room past) received ≡ reply_at setup room past received
  reply_follows received =
      let sender =
      ap (sender_in (responder_at setup room past)) (own-block received.group) ∙ sender-follows (block_of setup received.group) in
      (λ j. reply_by (sender j) (heard_follows received j) received)

  pub replies_follow : (received : Received) → replies_in (responder_at setup room past) received ≡ replies_at setup room past received
  replies_follow received =
      let sender =
      ap (sender_in (responder_at setup room past)) (own-block received.group) ∙ sender-follows (block_of setup received.group) in
      (λ j. replies_by (sender j) (heard_follows received j) received)

  -- the state after a message that is heard so by its block
  abbrev behind : Received → Option ℕ → Heard → Held
  behind received own h = record (responder_at setup room past) {
    blocks = kept_from 0 (λ m. spent_more m own h (spent_at setup past m)) setup.blocks;
    states = states_with (λ key. newer_or (accepted_by key own h received) (last_switch setup past key)) setup.profiles;
  }

  after-with : (received : Received) (own : Option ℕ) → profiles_are_distinct setup.profiles ≡ true →
      after_for (responder_at setup room past) received own ≡ behind received own (heard_for (responder_at setup room past) received own)
  after-with received None distinct = refl
  after-with received (Some block) distinct =
      let h = heard_for (responder_at setup room past) received (Some block) in
      (λ j. record (responder_at setup room past) {
        blocks = blocks-by (loses_muid h) (spent_at setup past) block setup.blocks j;
        states = states-by h block received (last_switch setup past) setup.profiles distinct j;
      })

  pub after_follows : (received : Received) → profiles_are_distinct setup.profiles ≡ true
      → after (responder_at setup room past) received ≡ responder_at setup room (received ∷ past)
  after_follows received distinct =
      ap (after_for (responder_at setup room past) received) (own-block received.group)
      ∙ after-with received (block_of setup received.group) distinct
      ∙ ap (behind received (block_of setup received.group)) (heard-with received (block_of setup received.group))

-- a switch that is accepted for one key isn't for another
switched-alone : (said : SaidToResponder) (block : ℕ) (received : Received) (one two : Key) (on : Bool)
    → switched one block received said ≡ Some on → same_key one two ≡ false → switched two block received said ≡ None
switched-alone (switch id to) block received one two on accepted apart = by (same_key (key_at block received id) one) refl accepted
  where
    by : (b : Bool) → same_key (key_at block received id) one ≡ b → (if b then Some to else None) ≡ Some on
        → (if same_key (key_at block received id) two then Some to else None) ≡ None
    by true same accepted =
        ap (λ c. if c then Some to else None) (ap (λ k. same_key k two) (key-is (key_at block received id) one same) ∙ apart)
    by false same accepted = absurd (true≢false (sym (ap is_some accepted)))
switched-alone (discovery path) block received one two on accepted apart = refl
switched-alone (endpoint status) block received one two on accepted apart = refl
switched-alone (invalidate target) block received one two on accepted apart = refl
switched-alone profiles block received one two on accepted apart = refl
switched-alone other block received one two on accepted apart = refl

accepted-alone : (own : Option ℕ) (h : Heard) (received : Received) (one two : Key) (on : Bool) → accepted_by one own h received ≡ Some on
    → same_key one two ≡ false → accepted_by two own h received ≡ None
accepted-alone None h received one two on accepted apart = refl
accepted-alone (Some block) heard.Answered received one two on accepted apart =
    switched-alone received.message.said block received one two on accepted apart
accepted-alone (Some block) heard.NoBlock received one two on accepted apart = refl
accepted-alone (Some block) heard.Silent received one two on accepted apart = refl
accepted-alone (Some block) heard.Collision received one two on accepted apart = refl
accepted-alone (Some block) heard.OldVersion received one two on accepted apart = refl
accepted-alone (Some block) heard.NotOurs received one two on accepted apart = refl
accepted-alone (Some block) heard.Moved received one two on accepted apart = refl
accepted-alone (Some block) heard.Report received one two on accepted apart = refl
accepted-alone (Some block) heard.Broadcast received one two on accepted apart = refl
accepted-alone (Some block) heard.Passed received one two on accepted apart = refl
accepted-alone (Some block) heard.Nak received one two on accepted apart = refl

pub others_stay : (setup : SetupData) (past : List Received) (received : Received) (one two : Key) (on : Bool)
    → accepted_at setup past received one ≡ Some on → same_key one two ≡ false →
    on_at setup (received ∷ past) two ≡ on_at setup past two
others_stay setup past received one two on accepted apart =
    let none : accepted_at setup past received two ≡ None =
    accepted-alone (block_of setup received.group) (heard_at setup past received) received one two on accepted apart in
    ap (λ o. option_map (unwrap_or (newer_or o (last_switch setup past two))) (state_in (first_states setup.profiles) two)) none
