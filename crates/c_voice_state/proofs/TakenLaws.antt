-- What a packet leaves.
use Rattle.std.proofs.Common.{◌≡◌, ℕ, List, None, Result, Ok, Err, OnOk, OnErr, refl, sym, subst, ◌∙◌, inl, inr}
use Rattle.voice_messages.specs.declared.voice2.Form.{Form}
use Rattle.ump_grammar.specs.declared.packet.Packet.{Packet}
use Rattle.ump_grammar.specs.declared.packet.Packet.TheVariants as packets
use Rattle.midi_meaning.specs.Messages.{Scale, raised}
use Rattle.voice_state.specs.declared.not_kept.NotKept.{NotKept}
use Rattle.voice_state.specs.declared.not_kept.NotKept.TheVariants as not_kept
use Rattle.voice_state.specs.Kept.{KeptGroup, Keeps}
use Rattle.voice_state.specs.Rooms.{IsFullWhere, IsPacketFull, KeepsAllRooms}
use Rattle.voice_state.specs.States.{States, after_packet}
use Rattle.c_voice_state.specs.Kept.{kept_status, Changes, IsTaken, StateKept}

-- one that has no part of an exclusive
pub taken_other : (old new : StateKept) (packet : Packet) (status : ℕ) →
    ((group : ℕ) (form : Form) (bytes : List ℕ) → packet ≡ packets.Exclusive group form bytes → ⊥) →
    new.exclusives ≡ old.exclusives → Changes raised (after_packet packet None) (IsPacketFull packet old.kept) old.kept status new.kept → IsTaken old packet status new
taken_other old new (packets.Exclusive group form bytes) status other same changes = absurd (other group form bytes refl)
taken_other old new _ status other same changes = (same, changes)

module _ (scale : Scale) (change : States → States) (F : List KeptGroup → Type 0) (old kept new : List KeptGroup) (status : ℕ)
    (same : kept ≡ old) (rooms : KeepsAllRooms kept new) where
  -- by what a step answered
  pub answered : {A : Type 0} (result : Result A NotKept) → status ≡ kept_status result →
      OnOk result ((states : States) → Keeps scale kept states → Keeps scale new (change states)) → OnErr result (new ≡ kept) →
      IsFullWhere result (F kept) → Changes scale change (F old) old status new
  answered (Ok value) is step stays full =
      record {
        done = λ fine states keeps. let K : List KeptGroup → Type 0 = λ k. Keeps scale k states in step states (subst K (sym same) keeps);
        unchanged = λ other. absurd (other is);
        full = (λ bad. absurd (let e : 0 ≡ 20 = sym is ∙ bad in cc), λ is_full. absurd (full (subst F (sym same) is_full)));
        rooms = subst (λ k. KeepsAllRooms k new) same rooms;
        answers = inl is;
      }
  answered (Err not_kept.Full) is step stays full =
      record {
        done = λ fine. absurd (let e : 20 ≡ 0 = sym is ∙ fine in cc);
        unchanged = λ other. stays ∙ same;
        full = (λ bad. subst F same full, λ is_full. is);
        rooms = subst (λ k. KeepsAllRooms k new) same rooms;
        answers = inr (inr is);
      }
  answered (Err not_kept.NoMemory) is step stays full =
      record {
        done = λ fine. absurd (let e : 1 ≡ 0 = sym is ∙ fine in cc);
        unchanged = λ other. stays ∙ same;
        full = (λ bad. absurd (let e : 1 ≡ 20 = sym is ∙ bad in cc), λ is_full. absurd (full (subst F (sym same) is_full)));
        rooms = subst (λ k. KeepsAllRooms k new) same rooms;
        answers = inr (inl is);
      }

-- a message that adds to no list
pub counted : (scale : Scale) (change : States → States) (old new : List KeptGroup) → KeepsAllRooms old new →
    ((states : States) → Keeps scale old states → Keeps scale new (change states)) → Changes scale change ⊥ old 0 new
counted scale change old new rooms step =
    record {
      done = λ fine. step;
      unchanged = λ other. absurd (other refl);
      full = (λ bad. absurd (let e : 0 ≡ 20 = bad in cc), λ is_full. absurd is_full);
      rooms = rooms;
      answers = inl refl;
    }

-- nothing came
pub silent : (scale : Scale) (old : List KeptGroup) → Changes scale (λ states. states) ⊥ old 0 old
silent scale old = counted scale (λ states. states) old old (λ group other channel other_channel. refl) (λ states keeps. keeps)
