-- What is done with the packets of a byte, one after the other.
use Rattle.std.proofs.Common.{◌≡◌, ◌+◌, ◌<◌, ℕ, zero, suc, Bool, true, false, List, [], ◌∷◌}
use Rattle.std.proofs.Common.{◌++◌, None, Some, refl, ap, sym, ◌∙◌, subst, arith, inl, inr}
use Rattle.std.specs.Prelude.{IfOk, Result, Ok, Err, nat_lt, if◌then◌else◌}
use Rattle.std.specs.Fork.{slice_chunk}
use Rattle.std.specs.List.{AllByRecursion}
use Rattle.std.proofs.lemmas.Bool.{cases_eq, ltb-true}
use Rattle.std.proofs.lemmas.List.{append_assoc, append-nil}
use Rattle.std.proofs.lemmas.Option.{same_Some}
use Rattle.voice_messages.specs.declared.voice2.Form.{Form}
use Rattle.ump_grammar.specs.declared.packet.Packet.{Packet}
use Rattle.ump_grammar.specs.declared.packet.Packet.TheVariants.{Exclusive}
use Rattle.sysex_groups.specs.Cut.{form_at, part_at, part_count}
use Rattle.midi_meaning.specs.Raising.{exclusive_packet, exclusive_packets, first_exclusive_packets}
use Rattle.up_translator.specs.declared.raised.Raised.{Raised}
use Rattle.up_translator.specs.ByteLines.{lines_in}
use Rattle.up_translator.specs.Raised.{packets_in}
use Rattle.pass_loop.specs.Pass.{Steps, Tail, Takes, Work}
use Rattle.pass_loop.specs.Places.{Places, Puts, over_puts}
use Rattle.pass_loop.specs.Put.{Put}
use Rattle.pass_loop.specs.declared.ends.RunEnd.{RunEnd}
use Rattle.pass_loop.specs.ForProofs.StepLaws.{takes_steps}
use Rattle.pass_loop.specs.ForProofs.PutLaws.{stops_more, then_put, then_stops}
use Rattle.listing_lines.specs.Lines.{line_puts}
use Rattle.translation_passes.specs.Raised.{Answers, AreDone, AreTaken, ByteIsDone, CanBeDone, CarriesOut, Doing, Task}

-- ---- some packets, and then others

pub one_done : {Held : Type 0} (IsDone : Doing Held) (from : Held) (packet : Packet) (to : Held) (puts : List Put)
    → IsDone from packet to puts → AreDone IsDone from (packet ∷ []) to puts
one_done IsDone from packet to puts done = (to, puts, [], done, (refl, refl), sym (append-nil puts))

done-then : {Held : Type 0} (IsDone : Doing Held) (ps qs : List Packet) (a b c : Held) (first second : List Put)
    → AreDone IsDone a ps b first → AreDone IsDone b qs c second → AreDone IsDone a (ps ++ qs) c (first ++ second)
done-then {Held = Held} IsDone [] qs a b c first second done rest =
    let H : Held → Type 0 = λ h. AreDone IsDone h qs c (first ++ second) in
    let P : List Put → Type 0 = λ ps. AreDone IsDone b qs c (ps ++ second) in
    subst H done.0 (subst P (sym done.1) rest)
done-then IsDone (p ∷ ps) qs a b c first second done rest = (
  done.0,
  done.1,
  done.2 ++ second,
  done.3,
  done-then IsDone ps qs done.0 b c done.2 second done.4 rest,
  ap (λ xs. xs ++ second) done.5 ∙ append_assoc done.1 done.2 second,
)

taken-after : {Held : Type 0} (Accepts : Held → Packet → Type 0) (IsDone : Doing Held) (ps qs : List Packet) (a b : Held) (puts : List Put)
    → AreTaken Accepts IsDone a (ps ++ qs) → AreDone IsDone a ps b puts → AreTaken Accepts IsDone b qs
taken-after {Held = Held} Accepts IsDone [] qs a b puts taken done =
    let H : Held → Type 0 = λ h. AreTaken Accepts IsDone h qs in subst H (sym done.0) taken
taken-after Accepts IsDone (p ∷ ps) qs a b puts taken done =
    taken-after Accepts IsDone ps qs done.0 b done.2 (taken.1 done.0 done.1 done.3) done.4

-- ---- exclusives

IsExclusive : Packet → Type 0
IsExclusive packet = (group : ℕ) × (form : Form) × (bytes : List ℕ) × (packet ≡ Exclusive group form bytes)

-- there is something to be done with each of these
rest_done : {Held : Type 0} (Accepts : Held → Packet → Type 0) (IsDone : Doing Held) → CanBeDone Accepts IsDone → (ps : List Packet)
    → AllByRecursion IsExclusive ps → (a : Held) → AreTaken Accepts IsDone a ps
    → (to : Held) × (puts : List Put) × AreDone IsDone a ps to puts
unfolding IsExclusive
rest_done Accepts IsDone can [] all a taken = (a, [], (refl, refl))
rest_done {Held = Held} Accepts IsDone can (p ∷ ps) all a taken =
    let is = all.0 in
    let A : Packet → Type 0 = λ q. Accepts a q in
    let D : Packet → Type 0 = λ q. (to : Held) × (puts : List Put) × IsDone a q to puts in
    let one = subst D (sym is.3) (can a is.0 is.1 is.2 (subst A is.3 taken.0)) in
    let rest = rest_done Accepts IsDone can ps all.1 one.0 (taken.1 one.0 one.1 one.2) in
    (rest.0, one.1 ++ rest.1, (one.0, one.1, rest.1, one.2, rest.2, refl))

exclusive-push : (ps : List Packet) (p : Packet) → AllByRecursion IsExclusive ps → IsExclusive p → AllByRecursion IsExclusive (ps ++ p ∷ [])
exclusive-push [] p all one = (one, tt)
exclusive-push (q ∷ ps) p all one = (all.0, exclusive-push ps p all.1 one)

-- packet k of a payload, and those after it
first-split : (group : ℕ) (payload : List ℕ) (count k : ℕ) → k < count
    → (more : List Packet) × AllByRecursion IsExclusive more
    × (first_exclusive_packets group payload count ≡ first_exclusive_packets group payload k ++ exclusive_packet group payload k ∷ more)
unfolding IsExclusive
first-split group payload zero k below = absurd (omega (arith, below))
first-split group payload (suc count) k below = elim (cases_eq k count) [
  | inl last ↦ ([], tt, ap (λ n. first_exclusive_packets group payload n ++ exclusive_packet group payload n ∷ []) (sym last))
  | inr other ↦
      let more = first-split group payload count k (omega (arith, below, other)) in
      let last = exclusive_packet group payload count in (
        more.0 ++ last ∷ [],
        exclusive-push more.0 last more.1 (group, form_at (part_count payload) count, slice_chunk payload 6 count, refl),
        ap (λ xs. xs ++ last ∷ []) more.2
            ∙ append_assoc (first_exclusive_packets group payload k) (exclusive_packet group payload k ∷ more.0) (last ∷ []),
      )
]

-- the part that `part` answers is the packet, and there is one exactly if the count isn't reached
pub record IsPacketPart (group : ℕ) (payload : List ℕ) (k : ℕ) (form : Form) (bytes : List ℕ) : Type 0 where
  pub below : k < part_count payload
  pub packet : Exclusive group form bytes ≡ exclusive_packet group payload k

pub packet_part : (group : ℕ) (payload : List ℕ) (k : ℕ) (form : Form) (bytes : List ℕ) → Some (form, bytes) ≡ part_at payload k
    → IsPacketPart group payload k form bytes
packet_part group payload k form bytes e = go (nat_lt k (part_count payload)) refl e
  where
    there : Form × List ℕ
    there = (form_at (part_count payload) k, slice_chunk payload 6 k)

    go : (t : Bool) → nat_lt k (part_count payload) ≡ t → Some (form, bytes) ≡ (if t then Some there else None)
        → IsPacketPart group payload k form bytes
    go true below is =
        let same : (form, bytes) ≡ there = same_Some (form, bytes) there is in
        record { below = ltb-true k (part_count payload) below; packet = ap (λ part. Exclusive group part.0 part.1) same }
    go false below is = cc

-- the first k packets are done: what that says of the next part
module _ {Held : Type 0} (Accepts : Held → Packet → Type 0) (IsDone : Doing Held) (group : ℕ) (payload : List ℕ) (k : ℕ) (form : Form)
    (bytes : List ℕ) (part : IsPacketPart group payload k form bytes)
    (from now : Held) (puts : List Put) (done : AreDone IsDone from (first_exclusive_packets group payload k) now puts) where
  abbrev split : (more : List Packet) × AllByRecursion IsExclusive more
      × (exclusive_packets group payload ≡ first_exclusive_packets group payload k ++ exclusive_packet group payload k ∷ more)
  split = first-split group payload (part_count payload) k part.below

  abbrev next : Packet
  next = Exclusive group form bytes

  part_taken : AreTaken Accepts IsDone from (exclusive_packets group payload) → AreTaken Accepts IsDone now (next ∷ split.0)
  part_taken taken =
      let T : List Packet → Type 0 = λ ps. AreTaken Accepts IsDone from ps in
      let N : Packet → Type 0 = λ p. AreTaken Accepts IsDone now (p ∷ split.0) in
      subst N (sym part.packet) (taken-after Accepts IsDone (first_exclusive_packets group payload k)
      (exclusive_packet group payload k ∷ split.0) from now puts (subst T split.2 taken) done)

  pub part_accepted : AreTaken Accepts IsDone from (exclusive_packets group payload) → Accepts now next
  part_accepted taken = (part_taken taken).0

  -- it is done as well
  pub part_done : (to : Held) (more : List Put) → IsDone now next to more
      → AreDone IsDone from (first_exclusive_packets group payload (k + 1)) to (puts ++ more)
  part_done to more one =
      let N : Packet → Type 0 = λ p. AreDone IsDone from (first_exclusive_packets group payload k ++ p ∷ []) to (puts ++ more) in
      let F : ℕ → Type 0 = λ n. AreDone IsDone from (first_exclusive_packets group payload n) to (puts ++ more) in
      let n : suc k ≡ k + 1 = omega arith in
      subst F n (subst N part.packet (done-then IsDone (first_exclusive_packets group payload k) (next ∷ []) from now to puts more done
      (one_done IsDone now next to more one)))

  -- or a put failed
  pub part_fails : CanBeDone Accepts IsDone → AreTaken Accepts IsDone from (exclusive_packets group payload)
      → (left : Held) (a b c : Places) (end : RunEnd) → b ≡ over_puts puts a
      → CarriesOut (IsDone now next) left b c (Err end)
      → CarriesOut (AreDone IsDone from (exclusive_packets group payload)) left a c (Err end)
  part_fails can taken left a b c end stands fails =
      let meant : Held = fails.0 in
      let one : List Put = fails.1 in
      let rest = rest_done Accepts IsDone can split.0 split.1 meant ((part_taken taken).1 meant one fails.2) in
      let N : Packet → Type 0 =
      λ p. AreDone IsDone from (first_exclusive_packets group payload k ++ p ∷ split.0) rest.0 (puts ++ (one ++ rest.1)) in
      let A : List Packet → Type 0 = λ ps. AreDone IsDone from ps rest.0 (puts ++ (one ++ rest.1)) in (
        rest.0,
        puts ++ (one ++ rest.1),
        subst A (sym split.2)
            (subst N part.packet (done-then IsDone (first_exclusive_packets group payload k) (next ∷ split.0) from now rest.0 puts
            (one ++ rest.1) done (meant, one, rest.1, fails.2, rest.2, refl))),
        then_stops puts (one ++ rest.1) end a b c stands (stops_more one rest.1 end b c fails.3),
      )

-- ---- the packets of a byte, and then its lines

-- what does one thing does another
pub carries_as : {Held : Type 0} (Does Meant : Held → List Put → Type 0) (left : Held) (a b : Places) (result : Result (Unit {0}) RunEnd)
    → ((to : Held) (puts : List Put) → Does to puts → Meant to puts)
    → CarriesOut Does left a b result → CarriesOut Meant left a b result
carries_as Does Meant left a b (Ok done) means out = (out.0, means left out.0 out.1, out.2)
carries_as Does Meant left a b (Err end) means out = (out.0, out.1, means out.0 out.1 out.2, out.3)

module _ {Held : Type 0} (IsDone : Doing Held) (from : Held) (raised : Raised) (to : Held) where
  abbrev lines : List Put
  lines = line_puts (lines_in raised.lines)

  pub then_lines : (a b c : Places) (result : Result (Unit {0}) RunEnd)
      → CarriesOut (AreDone IsDone from (packets_in raised)) to a b (Ok tt) → Puts lines b c result
      → CarriesOut (ByteIsDone IsDone from raised) to a c result
  then_lines a b c (Ok done) out puts = (out.0 ++ lines, (out.0, out.1, refl), then_put out.0 lines a b c out.2 puts)
  then_lines a b c (Err end) out puts = (to, out.0 ++ lines, (out.0, out.1, refl), then_stops out.0 lines end a b c out.2 puts)

  pub no_lines : (a b : Places) (end : RunEnd) → CarriesOut (AreDone IsDone from (packets_in raised)) to a b (Err end)
      → CarriesOut (ByteIsDone IsDone from raised) to a b (Err end)
  no_lines a b end out = (out.0, out.1 ++ lines, (out.1, out.2, refl), stops_more out.1 lines end a b out.3)

-- ---- a step of the work

abbrev pub task : {Held : Type 0} → Tail → (Held → List Put → Type 0) → Task Held
task refusal Does = record { refusal = refusal; Does = Does }

pub answered_steps : {Held I : Type 0} (work : Work I) (past : List I) (item : I) (Does : Held → List Put → Type 0) (to : Held)
    (old new : Places) (Then : Type 0) (result : Result (Unit {0}) RunEnd)
    → Answers (task (work.refusal past item) Does) to old new result
    → ((to : Held) (puts : List Put) → Does to puts → work.IsPut past item puts) → ((puts : List Put) → Does to puts → Then)
    → Steps work past old new item result × IfOk result (λ done. Then)
answered_steps {Held = Held} work past item Does to old new Then result answers is_put goes_on =
    by_refusal (work.refusal past item) refl answers
  where
    by_result : (r : Result (Unit {0}) RunEnd) → work.refusal past item ≡ None → CarriesOut Does to old new r
        → Steps work past old new item r × IfOk r (λ done. Then)
    by_result (Ok done) fine out = ((fine, (out.0, is_put to out.0 out.1, out.2)), goes_on out.0 out.1)
    by_result (Err end) fine out =
        let T : Tail → Type 0 = λ tail. Takes tail out.1 old new (Err end) in
        takes_steps work past item old new (Unit {0}) (Err end) out.1 (subst T (sym fine) out.3) (λ _. (is_put out.0 out.1 out.2, tt))

    by_refusal : (refusal : Tail) → work.refusal past item ≡ refusal → Answers (task refusal Does) to old new result
        → Steps work past old new item result × IfOk result (λ done. Then)
    by_refusal (Some refusal) e out =
        let R : Result (Unit {0}) RunEnd → Type 0 = λ r. Steps work past old new item r × IfOk r (λ done. Then) in
        subst R (sym out.0) ((e, out.1), tt)
    by_refusal None e out = by_result result e out
