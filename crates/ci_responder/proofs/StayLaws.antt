-- A responder is one of its setup, whatever it has heard.
use Rattle.std.proofs.Common.{◌≡◌, ◌+◌, ◌∙◌, ap, refl, ℕ, zero, suc, Bool, true, false, if◌then◌else◌, List, [], ◌∷◌, map}
use Rattle.std.proofs.Common.{Option, None, Some}
use Rattle.std.proofs.lemmas.Map.{keys-set_value}
use Rattle.std.specs.Map.{keys_of}
use Rattle.function_blocks.specs.declared.setup.Block.{Block}
use Rattle.function_blocks.specs.declared.setup.Profile.{Profile}
use Rattle.function_blocks.specs.Setups.{SetupData}
use Rattle.ci_responder.specs.declared.heard.Heard.{Heard}
use Rattle.ci_responder.specs.declared.heard.Heard.TheVariants as heard
use Rattle.ci_responder.specs.declared.kept.CiBlock.{CiBlock}
use Rattle.ci_responder.specs.declared.keys.Key.{Key}
use Rattle.ci_responder.specs.Held.{Held, after, after_for, block_in, change_at, heard_for, next, states_by}
use Rattle.ci_responder.specs.History.{kept, kept_from, responder_at, spent_at, states_at}
use Rattle.ci_responder.specs.Keys.{key_of, same_key}
use Rattle.ci_responder.specs.Messages.{SaidToResponder, Received, discovery, endpoint, invalidate, profiles, switch, other, key_at}
use Rattle.ci_responder.specs.Reset.{IsOf, unspent}
use Rattle.ci_responder.specs.Rows.{loses_muid}

-- ---- as it is made

unspent_kept : (spent : ℕ → ℕ) (number : ℕ) (bs : List Block) → map unspent (kept_from number spent bs) ≡ map (kept 0) bs
unspent_kept spent number [] = refl
unspent_kept spent number (b ∷ bs) = ap (λ rest. kept 0 b ∷ rest) (unspent_kept spent (number + 1) bs)

pub first_kept : (setup : SetupData) (number : ℕ) (bs : List Block) → map (kept 0) bs ≡ kept_from number (spent_at setup []) bs
first_kept setup number [] = refl
first_kept setup number (b ∷ bs) = ap (λ rest. kept 0 b ∷ rest) (first_kept setup (number + 1) bs)

keys_at : (setup : SetupData) (past : List Received) (ps : List Profile) → keys_of (states_at setup past ps) ≡ map key_of ps
keys_at setup past [] = refl
keys_at setup past (p ∷ ps) = ap (λ rest. key_of p ∷ rest) (keys_at setup past ps)

pub made_of : (setup : SetupData) (room : ℕ) (past : List Received) → IsOf setup (responder_at setup room past)
made_of setup room past = record {
  blocks = unspent_kept (spent_at setup past) 0 setup.blocks;
  profiles = keys_at setup past setup.profiles;
  identity = refl;
  product_id = refl;
}

-- ---- after one more message

unspent_changed : (n : ℕ) (bs : List CiBlock) → map unspent (change_at next n bs) ≡ map unspent bs
unspent_changed n [] = refl
unspent_changed zero (b ∷ bs) = refl
unspent_changed (suc n) (b ∷ bs) = ap (λ rest. unspent b ∷ rest) (unspent_changed n bs)

unspent_by : (loses : Bool) (n : ℕ) (bs : List CiBlock) → map unspent (if loses then change_at next n bs else bs) ≡ map unspent bs
unspent_by true n bs = unspent_changed n bs
unspent_by false n bs = refl

keys_answered : (said : SaidToResponder) (block : ℕ) (received : Received) (es : List (Key × Bool))
    → keys_of (states_by heard.Answered said block received es) ≡ keys_of es
keys_answered (switch id on) block received es = keys-set_value (same_key (key_at block received id)) es on
keys_answered (discovery path) block received es = refl
keys_answered (endpoint status) block received es = refl
keys_answered (invalidate target) block received es = refl
keys_answered profiles block received es = refl
keys_answered other block received es = refl

keys_by : (h : Heard) (said : SaidToResponder) (block : ℕ) (received : Received) (es : List (Key × Bool))
    → keys_of (states_by h said block received es) ≡ keys_of es
keys_by heard.Answered said block received es = keys_answered said block received es
keys_by heard.NoBlock said block received es = refl
keys_by heard.Silent said block received es = refl
keys_by heard.Collision said block received es = refl
keys_by heard.OldVersion said block received es = refl
keys_by heard.NotOurs said block received es = refl
keys_by heard.Moved said block received es = refl
keys_by heard.Report said block received es = refl
keys_by heard.Broadcast said block received es = refl
keys_by heard.Passed said block received es = refl
keys_by heard.Nak said block received es = refl

stays_by : (setup : SetupData) (held : Held) (received : Received) (block : Option ℕ) → IsOf setup held
    → IsOf setup (after_for held received block)
stays_by setup held received None is = is
stays_by setup held received (Some block) is =
    let h : Heard = heard_for held received (Some block) in
    record {
      blocks = unspent_by (loses_muid h) block held.blocks ∙ is.blocks;
      profiles = keys_by h received.message.said block received held.states ∙ is.profiles;
      identity = is.identity;
      product_id = is.product_id;
    }

pub stays_of : (setup : SetupData) (held : Held) (received : Received) → IsOf setup held → IsOf setup (after held received)
stays_of setup held received is = stays_by setup held received (block_in held.blocks received.group) is

room_by : (held : Held) (received : Received) (block : Option ℕ) → (after_for held received block).room ≡ held.room
room_by held received None = refl
room_by held received (Some block) = refl

pub room_stays : (held : Held) (received : Received) → (after held received).room ≡ held.room
room_stays held received = room_by held received (block_in held.blocks received.group)

-- ---- begun again

pub begun_again : (setup : SetupData) (held : Held) → IsOf setup held → map unspent held.blocks ≡ kept_from 0 (spent_at setup []) setup.blocks
begun_again setup held is = is.blocks ∙ first_kept setup 0 setup.blocks
