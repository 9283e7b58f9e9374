-- What a block does with a message.
use Rattle.std.specs.Prelude.{◌≡◌, ◌<◌, ℕ, Bool, true, false, ◌==◌, List, [], ◌∷◌, is_some}
use Rattle.std.proofs.Common.{zero, suc}
use Rattle.ci_responder.specs.declared.action.Action.{Action}
use Rattle.ci_responder.specs.declared.action.Action.TheVariants as action
use Rattle.ci_responder.specs.declared.heard.Heard.{Heard}
use Rattle.ci_responder.specs.declared.heard.Heard.TheVariants as heard
use Rattle.ci_responder.specs.declared.keys.Key.{Key}
use Rattle.ci_responder.specs.Keys.{same_key, state_in}
use Rattle.ci_responder.specs.Messages.{Received, discovery, endpoint, profiles, switch, key_at}

-- how a message is heard with which this is done
abbrev pub heard_of : Action → Heard
heard_of (action.PassOver row) = row
heard_of action.Invalidate = heard.Collision
heard_of action.Move = heard.Moved
heard_of (action.TellDevice path) = heard.Answered
heard_of action.TellProductId = heard.Answered
heard_of action.TellProfiles = heard.Answered
heard_of (action.Switch one) = heard.Answered
heard_of action.Nak = heard.Nak

-- nothing is done with a message that is heard so
abbrev pub is_passed_over : Heard → Bool
is_passed_over heard.Collision = false
is_passed_over heard.Moved = false
is_passed_over heard.Answered = false
is_passed_over heard.Nak = false
is_passed_over _ = true

-- the first profile of a key is that of this number
abbrev pub IsFirstOf : Key → List (Key × Bool) → ℕ → Type 0
IsFirstOf key [] number = ⊥
IsFirstOf key (state ∷ states) zero = same_key key state.0 ≡ true
IsFirstOf key (state ∷ states) (suc number) = (same_key key state.0 ≡ false) × IsFirstOf key states number

-- what an action says of a message is what the message says
abbrev pub Suits : List (Key × Bool) → ℕ → Received → Action → Type 0
Suits states block received (action.PassOver row) = is_passed_over row ≡ true
Suits states block received (action.TellDevice path) = (received.message.said ≡ discovery path) × (path < 128)
Suits states block received action.TellProductId =
    (received.message.said ≡ endpoint 0) × ((received.message.version == 1) ≡ false)
Suits states block received action.TellProfiles = received.message.said ≡ profiles
Suits states block received (action.Switch one) =
    (received.message.said ≡ switch one.id one.on) × IsFirstOf (key_at block received one.id) states one.number
Suits states block received _ = Unit {0}

-- the switch of the profile with a key, or a NAK if that isn't named
abbrev pub IsSwitchOf : List (Key × Bool) → Key → Bool → Action → Type 0
IsSwitchOf states key on (action.Switch one) =
    (one.id ≡ key.id) × (one.on ≡ on) × IsFirstOf key states one.number × (is_some (state_in states key) ≡ true)
IsSwitchOf states key on action.Nak = is_some (state_in states key) ≡ false
IsSwitchOf states key on _ = ⊥
