-- What is known is what the history says.
use Rattle.std.proofs.Common.{◌≡◌, ◌∙◌, ap, sym, refl, ℕ, Bool, true, false, ◌==◌, ◌||◌}
use Rattle.std.proofs.Common.{if◌then◌else◌, List, [], ◌∷◌, map, Option, None, Some, is_none}
use Rattle.std.proofs.lemmas.Bool.{eqb-true}
use Rattle.ci_initiator.specs.declared.watch.Watch.{Watch}
use Rattle.ci_initiator.specs.declared.watch.Watched.{Watched}
use Rattle.ci_initiator.specs.declared.noted.Noted.{Noted}
use Rattle.ci_initiator.specs.declared.noted.Noted.TheVariants as noted
use Rattle.ci_initiator.specs.Incoming.{SaidToInitiator, Incoming, device, invalidate, inventory, other, report}
use Rattle.ci_initiator.specs.Rows.{is_from, noted_row, row_of_said, told_row}
use Rattle.ci_initiator.specs.History.{Entry, entries, first_peer, held_at, last_told, noted_at, older_or, peer_at, since_gone}
use Rattle.ci_initiator.specs.Known.{Known, after, after_by, held_by, known_at, noted_in}

-- a watch, and its state
abbrev held-with : (Watch → Option Bool) → Watch → Watched
held-with hold watch = record { watch = watch; held = hold watch }

-- the watches stay what they are
pub same-watches : (hold : Watch → Option Bool) (watches : List Watch)
    → map (λ watched. watched.watch) (map (held-with hold) watches) ≡ watches
same-watches hold [] = refl
same-watches hold (w ∷ ws) = ap (λ rest. w ∷ rest) (same-watches hold ws)

-- the state of each is changed by one function
changed : (change : Watched → Watched) (one two : Watch → Option Bool) → ((w : Watch) → change (held-with one w) ≡ held-with two w) →
    (watches : List Watch) → map change (map (held-with one) watches) ≡ map (held-with two) watches
changed change one two same [] = refl
changed change one two same (w ∷ ws) = (λ j. same w j ∷ changed change one two same ws j)

module _ (muid : ℕ) (watches : List Watch) (past : List Incoming) where
  pub noted_follows : (heard : Incoming) → noted_in (known_at muid watches past) heard ≡ noted_at muid watches past heard
  noted_follows heard = ap (λ ws. noted_row muid (peer_at muid watches past) ws heard) (same-watches (held_at muid watches past) watches)

-- the source of a message of a peer is the peer that is known already, if any
abbrev IsSame : Option ℕ → ℕ → Noted → Type 0
IsSame peer source noted.Peer = older_or peer (Some source) ≡ Some source
IsSame peer source _ = Unit {0}

same-told : (peer : Option ℕ) (source : ℕ) (k : Option ℕ) → IsSame peer source (told_row k)
same-told peer source None = tt
same-told peer source (Some k) = tt

same-by : (peer : Option ℕ) (source : ℕ) (b : Bool) (row : Noted) → IsSame peer source row
    → IsSame peer source (if b then row else noted.Other)
same-by peer source true row same = same
same-by peer source false row same = tt

same-peer : (peer : Option ℕ) (source : ℕ) (b : Bool) → (is_none peer || is_from peer source) ≡ b
    → IsSame peer source (if b then noted.Peer else noted.Other)
same-peer None source true is = refl
same-peer (Some peer) source true is = ap Some (sym (eqb-true source peer is))
same-peer peer source false is = tt

same-said : (peer : Option ℕ) (watches : List Watch) (heard : Incoming) (said : SaidToInitiator)
    → IsSame peer heard.source (row_of_said peer watches heard said)
same-said peer watches heard device = same-peer peer heard.source (is_none peer || is_from peer heard.source) refl
same-said peer watches heard (invalidate target) = same-by peer heard.source (is_from peer target) noted.Gone tt
same-said peer watches heard (report id on) =
    same-by peer heard.source (is_from peer heard.source) (told_row _) (same-told peer heard.source _)
same-said peer watches heard (inventory on off) = same-by peer heard.source (is_from peer heard.source) noted.Inventory tt
same-said peer watches heard other = tt

not-ours : (peer : Option ℕ) (source : ℕ) (b : Bool) (row : Noted) → IsSame peer source row
    → IsSame peer source (if b then noted.Other else row)
not-ours peer source true row same = tt
not-ours peer source false row same = same

same-source : (muid : ℕ) (peer : Option ℕ) (watches : List Watch) (heard : Incoming)
    → IsSame peer heard.source (noted_row muid peer watches heard)
same-source muid peer watches heard =
    not-ours peer heard.source (heard.source == muid) _ (not-ours peer heard.source _ _ (same-said peer watches heard heard.said))

older-none : (peer : Option ℕ) → peer ≡ older_or peer None
older-none None = refl
older-none (Some peer) = refl

module _ (muid : ℕ) (watches : List Watch) (past : List Incoming) (heard : Incoming) where
  -- what the history says once one more message is noted so
  abbrev said-after : Noted → Known
  said-after row =
      let since : List Entry = since_gone (record { heard = heard; noted = row } ∷ entries muid watches past) in
      record {
        muid = muid;
        peer = first_peer since;
        watched = map (λ watch. record { watch = watch; held = last_told watch since }) watches;
      }

  after-row : (row : Noted) → IsSame (peer_at muid watches past) heard.source row
      → after_by row (known_at muid watches past) heard ≡ said-after row
  after-row noted.Other same = (λ j. record (known_at muid watches past) { peer = older-none (peer_at muid watches past) j })
  after-row noted.Peer same = (λ j. record (known_at muid watches past) { peer = sym same j })
  after-row noted.Gone same = (λ j. record {
    muid = muid;
    peer = None;
    watched = changed (held_by noted.Gone heard) (held_at muid watches past) (λ w. None) (λ w. refl) watches j;
  })
  after-row (noted.Told k) same = (λ j. record {
    muid = muid;
    peer = older-none (peer_at muid watches past) j;
    watched = changed (held_by (noted.Told k) heard) (held_at muid watches past) _ (λ w. refl) watches j;
  })
  after-row noted.Inventory same = (λ j. record {
    muid = muid;
    peer = older-none (peer_at muid watches past) j;
    watched = changed (held_by noted.Inventory heard) (held_at muid watches past) _ (λ w. refl) watches j;
  })

  pub after_follows : after (known_at muid watches past) heard ≡ known_at muid watches (heard ∷ past)
  after_follows =
      ap (λ row. after_by row (known_at muid watches past) heard) (noted_follows muid watches past heard)
      ∙ after-row (noted_at muid watches past heard) (same-source muid (peer_at muid watches past) watches heard)
