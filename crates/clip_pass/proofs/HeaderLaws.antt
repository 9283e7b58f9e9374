-- What holds of the packets after the header holds of the clip file.
use Rattle.std.proofs.Common.{◌≡◌, ◌+◌, ◌*◌, ◌≤◌, ◌<◌, ℕ, List, [], ◌∷◌, ◌++◌, length, drop}
use Rattle.std.proofs.Common.{Option, None, Some, refl, ap, sym, ◌∙◌, subst, arith, inl, inr}
use Rattle.std.specs.Prelude.{IfSome, ◌⊎◌, reverse}
use Rattle.std.proofs.lemmas.List.{append_assoc, length-append}
use Rattle.midi_clip.specs.Header.{header_bytes}
use Rattle.outside.specs.Outside.{ahead}
use Rattle.item_reader.specs.SoFar.{Given, given}
use Rattle.ump_words.specs.Reader.{Reading}
use Rattle.ump_words.specs.declared.words.Framed.{Framed}
use Rattle.ump_words.specs.declared.words.Order.TheVariants.{Big}
use Rattle.ump_grammar.specs.declared.packet.Packet.{Packet}
use Rattle.pass_loop.specs.Pass.{CutsOnce, HasGivenUp, IsFront, Tail}
use Rattle.pass_loop.specs.declared.ends.Reason.TheVariants.{NotClip, Truncated}
use Rattle.packet_input.specs.Packets.{GivenBehind, room_behind, words_behind}
use Rattle.packet_input.specs.ForProofs.Starting as starting
use Rattle.clip_pass.specs.Cutting.{CutsBehind, clip_cutting}
use Rattle.clip_pass.specs.Clipping.{size_over}
use Rattle.pass_loop.specs.ForProofs.PassLaws.{reverse-push}

-- ---- a clip file is cut in one way

one-after : (after other : List ℕ) → header_bytes ++ after ≡ header_bytes ++ other → after ≡ other
one-after after other same = ap (drop 8) same

module _ (cuts : CutsOnce CutsBehind) where
  one-clip : (bytes : List ℕ) (items others : List (Framed × Packet)) (end end' : Tail) → clip_cutting bytes items end
      → clip_cutting bytes others end' → (items ≡ others) × (end ≡ end')
  one-clip bytes items others end end' (inl (after, parts, cut)) (inr none) = absurd (none.2 after parts)
  one-clip bytes items others end end' (inr none) (inl (after, parts, cut)) = absurd (none.2 after parts)
  one-clip bytes items others end end' (inr none) (inr other) = (none.0 ∙ sym other.0, none.1 ∙ sym other.1)
  one-clip bytes items others end end' (inl (after, parts, cut)) (inl (after', parts', cut')) =
      let C : List ℕ → Type 0 = λ xs. CutsBehind xs others end' in
      cuts.one after items others end end' cut (subst C (one-after after' after (sym parts' ∙ parts)) cut')

  front-clip : (bytes : List ℕ) (items first : List (Framed × Packet)) (end : Tail) → clip_cutting bytes items end
      → IsFront clip_cutting bytes first → (rest : List (Framed × Packet)) × (items ≡ first ++ rest)
  front-clip bytes items first end cut (start, rest, split, (inr none)) = absurd (let e : None ≡ Some (NotClip, 0) = none.1 in cc)
  front-clip bytes items first end (inr none) (start, rest, split, (inl (start', header, cut'))) =
      absurd (none.2 (start' ++ rest) (split ∙ ap (λ xs. xs ++ rest) header ∙ append_assoc header_bytes start' rest))
  front-clip bytes items first end (inl (after, parts, cut)) (start, rest, split, (inl (start', header, cut'))) =
      let same : header_bytes ++ after ≡ header_bytes ++ (start' ++ rest) = sym parts ∙ split ∙ ap (λ xs. xs ++ rest) header in
      cuts.front after items first end cut (start', rest, one-after after (start' ++ rest) same, cut')

  pub clips_once : CutsOnce clip_cutting
  clips_once = record { one = one-clip; front = front-clip }

-- ---- what is read

-- these packets were given of all that came after the header, and the last of them ends at this offset
pub record HasGiven (reader : Reading) (end : ℕ) (so_far : Given (Framed × Packet)) : Type 0 where
  pub packets : GivenBehind Big 8 reader so_far
  pub few : 4 * length so_far.items ≤ reader.offset
  pub fits : reader.offset ≤ room_behind 8
  pub end_is : end ≡ reader.offset + 8
  pub size_is : end ≡ size_over (reverse so_far.items)

pub none_given : (reader : Reading) (end : ℕ) (all : Option (List ℕ)) → reader ≡ words_behind Big 8 → end ≡ 8
    → HasGiven reader end (given all all [])
none_given reader end all is_new first =
    let at : reader.offset ≡ 0 = ap (λ r. r.offset) is_new in
    record {
      packets = starting.none_given reader Big 8 all is_new;
      few = omega (arith, at);
      fits = omega (arith, at);
      end_is = omega (arith, at, first);
      size_is = first;
    }

module _ (reader reader' : Reading) (end at size : ℕ) (all left left' : Option (List ℕ)) (items : List (Framed × Packet))
    (item : Framed × Packet) (so_far : HasGiven reader end (given all left items)) where
  pub given_more : GivenBehind Big 8 reader' (given all left' (items ++ item ∷ [])) → at ≡ reader.offset + 8 → 0 < size
      → reader'.offset ≡ reader.offset + 4 * size → reader'.offset ≤ room_behind 8
      → size ≡ length item.0.words → HasGiven reader' (at + 4 * size) (given all left' (items ++ item ∷ []))
  given_more more place some moved fits same =
      let S : List (Framed × Packet) → Type 0 = λ past. at + 4 * size ≡ size_over past in
      record {
        packets = more;
        few = omega (arith, so_far.few, some, moved, length-append items (item ∷ []));
        fits = fits;
        end_is = omega (arith, place, moved);
        size_is = subst S (sym (reverse-push items item)) (omega (arith, place, so_far.end_is, so_far.size_is, same));
      }

-- ---- with the header before it

with-header : (after : Option (List ℕ)) (P Q : List ℕ → Type 0) → IfSome after P → ((rest : List ℕ) → P rest → Q (header_bytes ++ rest))
    → IfSome (ahead header_bytes after) Q
with-header None P Q here more = tt
with-header (Some rest) P Q here more = more rest here

pub whole_file : (all : Option (List ℕ)) (items : List (Framed × Packet)) (left : Option (List ℕ)) (end : ℕ)
    → IfSome all (λ bytes. clip_cutting bytes items None × (left ≡ Some [])) → IfSome all (λ bytes. end ≡ length bytes)
    → IfSome all (λ bytes. clip_cutting bytes items None × (left ≡ Some []) × (end ≡ length bytes))
whole_file None items left end cut size = tt
whole_file (Some bytes) items left end cut size = (cut.0, cut.1, size)

module _ (after : Option (List ℕ)) (items : List (Framed × Packet)) where
  pub front_of_clip : IfSome after (λ rest. IsFront CutsBehind rest items)
      → IfSome (ahead header_bytes after) (λ bytes. IsFront clip_cutting bytes items)
  front_of_clip front =
      with-header after (λ rest. IsFront CutsBehind rest items) (λ bytes. IsFront clip_cutting bytes items) front
      (λ rest (start, more, parts, cut). (
        header_bytes ++ start,
        more,
        ap (λ xs. header_bytes ++ xs) parts ∙ sym (append_assoc header_bytes start more),
        inl (start, refl, cut),
      ))

  pub cut_of_clip : (end : Tail) → IfSome after (λ rest. CutsBehind rest items end)
      → IfSome (ahead header_bytes after) (λ bytes. clip_cutting bytes items end)
  cut_of_clip end cut =
      with-header after (λ rest. CutsBehind rest items end) (λ bytes. clip_cutting bytes items end) cut (λ rest cut. inl (rest, refl, cut))

  -- the file ends
  pub end_of_clip : (left : Option (List ℕ)) → IfSome after (λ rest. CutsBehind rest items None × (left ≡ Some []))
      → IfSome (ahead header_bytes after) (λ bytes. clip_cutting bytes items None × (left ≡ Some []))
  end_of_clip left ends =
      with-header after (λ rest. CutsBehind rest items None × (left ≡ Some [])) (λ bytes. clip_cutting bytes items None × (left ≡ Some []))
      ends (λ rest ends. (inl (rest, refl, ends.0), ends.1))

  pub size_of_clip : (at end : ℕ) → end ≡ at + 8 → IfSome after (λ rest. at ≡ length rest)
      → IfSome (ahead header_bytes after) (λ bytes. end ≡ length bytes)
  size_of_clip at end end_is size =
      with-header after (λ rest. at ≡ length rest) (λ bytes. end ≡ length bytes) size
      (λ rest same. let header : length (header_bytes ++ rest) ≡ 8 + length rest = length-append header_bytes rest in
      omega (arith, end_is, same, header))

  -- a read failed
  pub fault_of_clip : (left : Option (List ℕ)) → IfSome after (λ rest. HasGivenUp CutsBehind rest left items)
      → IfSome (ahead header_bytes after) (λ bytes. HasGivenUp clip_cutting bytes left items)
  fault_of_clip left fails =
      with-header after (λ rest. HasGivenUp CutsBehind rest left items) (λ bytes. HasGivenUp clip_cutting bytes left items) fails
      (λ rest up. record {
        given = header_bytes ++ up.given;
        rest = up.rest;
        parts = ap (λ xs. header_bytes ++ xs) up.parts ∙ sym (append_assoc header_bytes up.given up.rest);
        left_is = up.left_is;
        cut = by_cut up.given up.cut;
      })
    where
      by_cut : (given : List ℕ) → CutsBehind given items None ⊎ ((offset : ℕ) × CutsBehind given items (Some (Truncated, offset)))
          → clip_cutting (header_bytes ++ given) items None
          ⊎ ((offset : ℕ) × clip_cutting (header_bytes ++ given) items (Some (Truncated, offset)))
      by_cut given (inl cut) = inl (inl (given, refl, cut))
      by_cut given (inr cut) = inr (cut.0, inl (given, refl, cut.1))
