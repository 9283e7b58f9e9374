-- What stands when the pass over a clip file ends, and which end it is if nothing fails.
use Rattle.std.proofs.Common.{◌≡◌, ◌+◌, ◌≤◌, ◌<◌, ℕ, true, false, List, [], ◌++◌, length, take}
use Rattle.std.proofs.Common.{Option, None, Some, refl, ap, sym, ◌∙◌, subst, arith, inl, inr}
use Rattle.std.specs.Prelude.{IfSome}
use Rattle.std.proofs.lemmas.List.{length-append, take_at}
use Rattle.midi_clip.specs.Header.{HasTaken, header_bytes}
use Rattle.outside.specs.Outside.{Loses, ahead}
use Rattle.pass_loop.specs.ForProofs.Borrowed.{ends_as, ends_keep, given_back, seen_back}
use Rattle.pass_loop.specs.ForProofs.DoneLaws.{is_done_unless}
use Rattle.pass_loop.specs.ForProofs.NamedLaws.{stands_ends}
use Rattle.pass_loop.specs.Pass.{CutsOnce, HasNoRefusal, IsDoneUnless, IsFirstRefusal, NothingFails, Seen, Stands}
use Rattle.pass_loop.specs.Places.{Places}
use Rattle.pass_loop.specs.ForProofs.PutLaws.{over_puts-none}
use Rattle.pass_loop.specs.Refused.{HasFirstRefusal, IsRefusedWhere}
use Rattle.pass_loop.specs.ForProofs.RefusedLaws.{is_refused_where}
use Rattle.pass_loop.specs.declared.ends.Reason.{Reason}
use Rattle.pass_loop.specs.declared.ends.Reason.TheVariants as reason
use Rattle.pass_loop.specs.declared.ends.RunEnd.{RunEnd}
use Rattle.pass_loop.specs.declared.ends.RunEnd.TheVariants.{Done, Refused}
use Rattle.clip_pass.specs.Clipping.{clipping}
use Rattle.clip_pass.specs.Cutting.{clip_cutting}
use Rattle.clip_pass.specs.Ends.{ClipEnds, IsNoClip, IsUnended, with_header}
use Rattle.clip_pass.proofs.StepLaws.{last-named, puts-named}

-- ---- the header

pub header-taken : (old mid : Option (List ℕ)) → HasTaken old mid true → ahead header_bytes mid ≡ old
header-taken old mid is = by_told old mid (let L : List ℕ → Type 0 = λ xs. Loses old mid xs in subst L (is.told.0 refl) is.lost)
  where
    by_told : (before after : Option (List ℕ)) → Loses before after header_bytes → ahead header_bytes after ≡ before
    by_told None None lost = refl
    by_told (Some before) (Some after) lost = ap Some (sym lost)
    by_told None (Some after) lost = absurd lost
    by_told (Some before) None lost = absurd lost

abbrev made : Places → Option (List ℕ) → ℕ → Seen
made places left reads = record { left = left; reads = reads; places = places }

pub seen-before : (old mid : Seen) → HasTaken old.left mid.left true → mid.reads ≡ old.reads → mid.places ≡ old.places
    → with_header mid ≡ old
seen-before old mid is reads places =
    ap (λ left. made mid.places left mid.reads) (header-taken old.left mid.left is)
    ∙ ap (made mid.places old.left) reads
    ∙ ap (λ p. made p old.left old.reads) places

-- what was taken of a file with a header are the bytes of the header
all-taken : (bytes after : List ℕ) (new : Option (List ℕ)) → bytes ≡ header_bytes ++ after → HasTaken (Some bytes) new false → ⊥
all-taken bytes after None parts is = is.lost
all-taken bytes after (Some left) parts is =
    let size : length bytes ≡ 8 + length after = ap length parts ∙ length-append header_bytes after in
    let split : length bytes ≡ length is.taken + length left = ap length is.lost ∙ length-append is.taken left in
    let full : length is.taken ≡ 8 = eight (length is.taken) is.most (λ fewer. omega (arith, ap length (is.all fewer))) in
    let same : is.taken ≡ header_bytes = sym (take_at is.taken left 8 full) ∙ ap (take 8) (sym is.lost ∙ parts) in
    let e : false ≡ true = is.told.1 same in
    cc
  where
    eight : (n : ℕ) → n ≤ 8 → (n < 8 → ⊥) → n ≡ 8
    eight n most not = omega arith

-- so a file of which others were taken has none
no-header : (old new : Option (List ℕ)) → HasTaken old new false
    → IfSome old (λ bytes. IsFirstRefusal clip_cutting clipping bytes [] reason.NotClip 0)
no-header None new is = tt
no-header (Some bytes) new is = inl (inr (refl, refl, λ after parts. all-taken bytes after new parts is))

-- ---- each end

abbrev offset_of : RunEnd → ℕ
offset_of (Refused why offset) = offset
offset_of _ = 0

-- what stands is what any pass says, if no such end is one of the two that only a clip file has
pub as_any : (Is : RunEnd → Type 0) → ((offset : ℕ) → Is (Refused reason.NotClip offset) → ⊥)
    → ((offset : ℕ) → Is (Refused reason.NoEnd offset) → ⊥)
    → (old new : Seen) (end : RunEnd) → Is end → Stands clip_cutting clipping old new end → ClipEnds old new end
as_any Is no_clip unended old new end is stands =
    inl (record {
      any = stands_ends clip_cutting clipping puts-named last-named old new end stands;
      no_clip = λ offset e. absurd (no_clip offset (subst Is e is));
      unended = λ offset e. absurd (unended offset (subst Is e is));
    })

pub no-clip : (old new : Seen) → IsNoClip 0 old new → ClipEnds old new (Refused reason.NotClip 0)
no-clip old new is =
    let I : ℕ → Type 0 = λ offset. IsNoClip offset old new in
    inl (record {
      any = stands_ends clip_cutting clipping puts-named last-named old new (Refused reason.NotClip 0)
          (record {
            items = [];
            puts = [];
            first = no-header old.left new.left is.taken;
            done = record { accepted = tt; put = refl; meaning = refl };
            places = is.places ∙ sym (over_puts-none old.places);
            reads = is.reads;
          });
      no_clip = λ offset e. subst I (ap offset_of e) is;
      unended = λ offset e. absurd (let f : Refused reason.NotClip 0 ≡ Refused reason.NoEnd offset = e in cc);
    })

pub unended : (at : ℕ) (old new : Seen) → Stands clip_cutting clipping old new (Refused reason.NoEnd at) → IsUnended at old new
    → ClipEnds old new (Refused reason.NoEnd at)
unended at old new stands is =
    let I : ℕ → Type 0 = λ offset. IsUnended offset old new in
    inl (record {
      any = stands_ends clip_cutting clipping puts-named last-named old new (Refused reason.NoEnd at) stands;
      no_clip = λ offset e. absurd (let f : Refused reason.NoEnd at ≡ Refused reason.NotClip offset = e in cc);
      unended = λ offset e. subst I (ap offset_of e) is;
    })

-- ---- of objects that are borrowed

pub clip_ends_keep : (old new : Seen) (end : RunEnd) → ClipEnds old new end → new.places.borrows ≡ old.places.borrows
clip_ends_keep old new end (inl is) = ends_keep clip_cutting clipping old new end is.any
clip_ends_keep old new end (inr fails) = ap (λ s. s.borrows) fails.1.places

-- what stands of objects that are borrowed stands of the objects
pub clip_ends_as : (old new : Seen) (end : RunEnd) (now : Places) → given_back new.places ≡ now → ClipEnds old new end
    → ClipEnds (seen_back old) (record new { places = now }) end
clip_ends_as old new end now same (inl is) =
    inl (record {
      any = ends_as clip_cutting clipping old new end now same is.any;
      no_clip = λ offset e.
          let no = is.no_clip offset e in
          record { first = no.first; taken = no.taken; places = sym same ∙ ap given_back no.places; reads = no.reads };
      unended = λ offset e.
          let un = is.unended offset e in
          record {
            items = un.items;
            puts = un.puts;
            cut = un.cut;
            done = un.done;
            goes_on = un.goes_on;
            places = sym same ∙ ap given_back un.places;
            reads = un.reads;
          };
    })
clip_ends_as old new end now same (inr (e, fails)) =
    inr (
      e,
      record {
        taken = fails.taken;
        few = fails.few;
        lost = fails.lost;
        places = sym same ∙ ap given_back fails.places;
        reads = fails.reads;
      },
    )

-- ---- if nothing fails

abbrev pub IsTold : Seen → Seen → RunEnd → Type 0
IsTold old new end = IsDoneUnless clip_cutting clipping old new end × IsRefusedWhere clip_cutting clipping old new end

pub is_told : (cuts : CutsOnce clip_cutting) (old new : Seen) (end : RunEnd) → ClipEnds old new end → IsTold old new end
is_told cuts old new end (inl is) =
    (is_done_unless clip_cutting clipping cuts old new end is.any, is_refused_where clip_cutting clipping cuts old new end is.any)
is_told cuts old new end (inr fails) = by_told old.left
  where
    by_told : (left : Option (List ℕ)) → IfSome left (λ bytes. HasNoRefusal clip_cutting clipping bytes → NothingFails old new → end ≡ Done)
        × IfSome left (λ bytes. (why : Reason) (offset : ℕ) → HasFirstRefusal clip_cutting clipping bytes why offset → NothingFails old new
        → end ≡ Refused why offset)
    by_told None = (tt, tt)
    by_told (Some bytes) = (λ none well. absurd (well.0 fails.1.reads), λ why offset first well. absurd (well.0 fails.1.reads))
