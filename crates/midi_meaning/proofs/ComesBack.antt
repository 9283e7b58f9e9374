-- The raised packets, with any offsets, are accepted, carried and not listed on the way down.
use Rattle.std.proofs.Common.{ℕ, ◌≡◌, ◌≤◌, ◌∙◌, ap, sym, refl, subst, map, List, [], ◌∷◌, ◌++◌, reverse, length}
use Rattle.std.proofs.Common.{Option, Some, None, true, false, cond, arith, length-append, inl, inr, Bool}
use mathlib.Core.List.{reverse_aux}
use Rattle.std.specs.Prelude.{is_some}
use Rattle.std.proofs.lemmas.Bool.{cond_both, le-leb, cases_eq}
use Rattle.std.proofs.lemmas.List.{reverse-append}
use Rattle.std.specs.Option.{option_map, option_to_list, unwrap_or}
use Rattle.std.specs.List.{flat_map}
use Rattle.voice_messages.specs.declared.voice2.Form.{Form}
use Rattle.voice_messages.specs.declared.voice2.Form.TheVariants as form
use Rattle.ump_grammar.specs.declared.packet.Packet.{Packet}
use Rattle.ump_grammar.specs.declared.packet.Packet.TheVariants as packet
use Rattle.sysex_groups.specs.Exclusives.{Part, joined, opened, started, start_of, bytes_of, goes_on, passes_by, passes_room, ended_by}
use Rattle.listing_terms.specs.declared.listed.Kind.{Kind}
use Rattle.listing_terms.specs.declared.listed.Kind.TheVariants as kinds
use Rattle.listing_terms.specs.declared.listed.Listed.{Listed}
use Rattle.listing_terms.specs.declared.listed.BadStep.TheVariants as bad
use Rattle.listing_terms.specs.Parts.{Placed, part_of, parts_of}
use Rattle.midi_meaning.specs.Listing.{exclusive_kind, line_offset, lines_over, end_line, end_lines, groups}
use Rattle.midi_meaning.specs.Rooms.{AreWithinRoom}
use Rattle.midi_meaning.specs.Raising.{packets_up}
use Rattle.midi_meaning.specs.Back.{is_last_part, ComesBack, AllComeBack}
use Rattle.midi_meaning.proofs.Joined.{joined_without_offsets}
use Rattle.midi_meaning.proofs.Rooms.{opened_in_room, ended_in_room}
use Rattle.midi_meaning.proofs.Back.{AreOf, raised_of_group}
use Rattle.midi_meaning.proofs.Silent.{begun, IsSilentPart, IsSilent, AreSilent, raised_silent, others_begin_nothing}

abbrev pub packets_in : List Placed → List Packet
packets_in past = map (λ placed. placed.packet) past

-- ---- an exclusive's part

passes-not : (room : ℕ) (o : Option (List ℕ)) (f : Form) (bytes : List ℕ) → IsSilentPart room o f bytes
    → cond (goes_on f) (passes_by (Some room) o bytes) false ≡ false
passes-not room None f bytes h = cond_both (goes_on f) false false (λ t. t ≡ false) (λ e. refl) (λ e. refl)
passes-not room (Some before) f bytes h =
    rw (le-leb (length (before ++ bytes)) room h.fits) (cond_both (goes_on f) false false (λ t. t ≡ false) (λ e. refl) (λ e. refl))

alone_fits : (room : ℕ) (o : Option (List ℕ)) (f : Form) (bytes : List ℕ) → IsSilentPart room o f bytes → length bytes ≤ room
alone_fits room o f bytes h =
    let both : length (unwrap_or o [] ++ bytes) ≤ room = h.fits in
    omega (arith, length-append (unwrap_or o []) bytes)

joined-room : (room g : ℕ) (past : List Placed) → AreWithinRoom room (parts_of past)
    → joined (Some room) g (parts_of past) ≡ begun g (packets_in past)
joined-room room g past w = ap (option_map bytes_of) (opened_in_room room g (parts_of past) w) ∙ joined_without_offsets g past

passes-placed : (room offset g : ℕ) (f : Form) (bytes : List ℕ) (past : List Placed) → AreWithinRoom room (parts_of past)
    → IsSilentPart room (begun g (packets_in past)) f bytes
    → passes_room (Some room) (parts_of past) (record { group = g; form = f; bytes = bytes; offset = offset }) ≡ false
passes-placed room offset g f bytes past w h =
    ap (λ o. cond (goes_on f) (passes_by (Some room) o bytes) false) (joined-room room g past w)
    ∙ passes-not room (begun g (packets_in past)) f bytes h

-- it isn't listed
kind-none : (f : Form) (o : Option ℕ) → goes_on f ≡ is_some o → exclusive_kind f o ≡ None
kind-none form.Complete None e = refl
kind-none form.Complete (Some s) e = cc
kind-none form.Start None e = refl
kind-none form.Start (Some s) e = cc
kind-none form.Continue None e = cc
kind-none form.Continue (Some s) e = refl
kind-none form.End None e = cc
kind-none form.End (Some s) e = refl

started-some : (o : Option (List Part)) → is_some (option_map start_of o) ≡ is_some (option_map bytes_of o)
started-some None = refl
started-some (Some parts) = refl

-- it is carried if it is the last one
ends-last : (room : ℕ) (o : Option (List ℕ)) (f : Form) (bytes : List ℕ) (g : ℕ) → IsSilentPart room o f bytes
    → is_some (ended_by (Some room) f o bytes) ≡ is_last_part (packet.Exclusive g f bytes)
ends-last room o form.Complete bytes g h = refl
ends-last room o form.Start bytes g h = refl
ends-last room o form.Continue bytes g h = refl
ends-last room None form.End bytes g h = let no : true ≡ false = h.follows in cc
ends-last room (Some before) form.End bytes g h = rw (le-leb (length (before ++ bytes)) room h.fits) refl

turned_of_group : (g : ℕ) (xs acc : List Packet) → AreOf g xs → AreOf g acc → AreOf g (reverse_aux xs acc)
turned_of_group g [] acc h k = k
turned_of_group g (x ∷ xs) acc h k = turned_of_group g xs (x ∷ acc) h.1 (h.0, k)

end_none : (room : ℕ) (parts : List Part) (gs : List ℕ) → ((each : ℕ) → opened (Some room) each parts ≡ None)
    → flat_map (λ group. option_to_list (end_line (Some room) parts group)) gs ≡ []
end_none room parts [] h = refl
end_none room parts (g ∷ gs) h =
    λ i.
    option_to_list (option_map {T = ℕ} {U = Listed} (λ start. record { offset = start; group = Some g; kind = kinds.OpenExclusive })
    (option_map start_of (h g i)))
    ++ end_none room parts gs h i

module _ (paired : Bool) where
  pub silent_within : (room : ℕ) (past : List Placed) → AreSilent paired room (packets_in past) → AreWithinRoom room (parts_of past)
  silent_within room [] a = tt
  silent_within room (placed ∷ past) a = go placed.packet a.0 (silent_within room past a.1)
    where
      go : (p : Packet) → IsSilent paired room (packets_in past) p → AreWithinRoom room (parts_of past)
          → AreWithinRoom room (option_to_list (part_of placed.offset p) ++ parts_of past)
      go (packet.Exclusive g f bytes) h w = (passes-placed room placed.offset g f bytes past w h, alone_fits room _ f bytes h, w)
      go (packet.System g m) h w = w
      go (packet.Voice2 g m) h w = w
      go _ h w = absurd h

  -- ---- one packet

  comes_back : (room offset : ℕ) (p : Packet) (past : List Placed) → AreWithinRoom room (parts_of past)
      → IsSilent paired room (packets_in past) p → ComesBack paired room past (record { offset = offset; packet = p })
  comes_back room offset (packet.System g m) past w h = record { accepted = refl; unlisted = refl; carried = refl; whole = refl }
  comes_back room offset (packet.Voice2 g m) past w h = record {
    accepted = h.accepted;
    unlisted =
        ap (option_map {T = Kind} {U = Listed} (λ kind. record { offset = line_offset kind None offset; group = Some g; kind = kind }))
        h.unlisted;
    carried = h.carried;
    whole = refl;
  }
  comes_back room offset (packet.Exclusive g f bytes) past w h =
      let parts = parts_of past in
      let part : Part = record { group = g; form = f; bytes = bytes; offset = 0 } in
      let joins = joined-room room g past w in
      let passes = passes-placed room 0 g f bytes past w h in
      let follows : goes_on f ≡ is_some (started (Some room) g parts) =
      h.follows ∙ ap is_some (sym joins) ∙ sym (started-some (opened (Some room) g parts)) in
      record {
        accepted = ap (λ t. cond t (Some bad.ExclusiveTooLong) None) passes;
        unlisted =
            ap (option_map {T = Kind} {U = Listed}
            (λ kind. record { offset = line_offset kind (started (Some room) g parts) offset; group = Some g; kind = kind }))
            (kind-none f (started (Some room) g parts) follows);
        carried = ap (λ o. is_some (ended_by (Some room) f o bytes)) joins ∙ ends-last room (begun g (packets_in past)) f bytes g h;
        whole = ended_in_room room parts part w passes ∙ ap (λ o. ended_by None f o bytes) (joined_without_offsets g past);
      }
  comes_back room offset _ past w h = absurd h

  pub all_come_back : (room : ℕ) (past : List Placed) → AreSilent paired room (packets_in past) → AllComeBack paired room past
  all_come_back room [] a = tt
  all_come_back room (placed ∷ past) a =
      (comes_back room placed.offset placed.packet past (silent_within room past a.1) a.0, all_come_back room past a.1)

  -- ---- the first of the packets

  silent_before : (room : ℕ) (more past : List Packet) → AreSilent paired room (more ++ past) → AreSilent paired room past
  silent_before room [] past a = a
  silent_before room (p ∷ more) past a = silent_before room more past a.1

  pub first_come_back : (room g : ℕ) (past : List ℕ) (packets more : List Packet) (placed : List Placed)
      → packets ++ more ≡ packets_up paired (Some room) g past → packets_in placed ≡ reverse packets → AllComeBack paired room placed
  first_come_back room g past packets more placed e q =
      let all : AreSilent paired room (reverse (packets ++ more)) =
      subst (λ l. AreSilent paired room (reverse l)) (sym e) (raised_silent paired room g past).silent in
      let first : AreSilent paired room (reverse packets) =
      silent_before room (reverse more) (reverse packets) (subst (AreSilent paired room) (reverse-append packets more) all) in
      all_come_back room placed (subst (AreSilent paired room) (sym q) first)

  -- ---- after all packets of some bytes

  pub nothing_begun : (room g : ℕ) (past : List ℕ) (placed : List Placed)
      → packets_in placed ≡ reverse (packets_up paired (Some room) g past) → (each : ℕ) → opened (Some room) each (parts_of placed) ≡ None
  nothing_begun room g past placed q each =
      let r = raised_silent paired room g past in
      let w : AreWithinRoom room (parts_of placed) = silent_within room placed (subst (AreSilent paired room) (sym q) r.silent) in
      let own : begun each (reverse (packets_up paired (Some room) g past)) ≡ None = elim (cases_eq g each) [
        | inl same ↦ ap (λ n. begun n (reverse (packets_up paired (Some room) g past))) (sym same) ∙ r.nothing
        | inr other ↦
            others_begin_nothing g each (reverse (packets_up paired (Some room) g past))
            (turned_of_group g (packets_up paired (Some room) g past) [] (raised_of_group paired (Some room) g past) tt) other
      ] in
      unjoined (opened (Some room) each (parts_of placed)) (joined-room room each placed w ∙ ap (begun each) q ∙ own)
    where
      unjoined : (o : Option (List Part)) → option_map bytes_of o ≡ None → o ≡ None
      unjoined None e = refl
      unjoined (Some parts) e = cc

  lines_none : (room : ℕ) (placed : List Placed) → AllComeBack paired room placed → lines_over paired (Some room) placed ≡ []
  lines_none room [] a = refl
  lines_none room (p ∷ past) a = λ i. lines_none room past a.1 i ++ option_to_list (a.0.unlisted i)

  pub nothing_listed : (room g : ℕ) (past : List ℕ) (placed : List Placed)
      → packets_in placed ≡ reverse (packets_up paired (Some room) g past)
      → lines_over paired (Some room) placed ++ end_lines (Some room) (parts_of placed) ≡ []
  nothing_listed room g past placed q =
      let silent : AreSilent paired room (packets_in placed) =
      subst (AreSilent paired room) (sym q) (raised_silent paired room g past).silent in
      λ i. lines_none room placed (all_come_back room placed silent) i
      ++ end_none room (parts_of placed) groups (nothing_begun room g past placed q) i
