-- What an endpoint did with a packet, by what it answered.
use Rattle.std.proofs.Common.{◌≡◌, ℕ, List, [], length, Bool, true, false, Option, Some, None, Ok, Err, refl, sym, subst, ap, ◌∙◌}
use Rattle.ump_grammar.specs.Reason.{reason}
use Rattle.ump_grammar.specs.Replies.{AddsPackets}
use Rattle.ump_grammar.specs.declared.packet.Bad.{Bad}
use Rattle.ump_grammar.specs.declared.packet.Packet.{Packet}
use Rattle.listing_terms.specs.declared.listed.BadStep.{BadStep}
use Rattle.ump_endpoint.specs.Held.{EndpointState, after_packet, refusal_in, replies_in, taken_by, taken_in}
use Rattle.ump_endpoint.specs.declared.taken.Taken.{Taken}
use Rattle.c_answers.specs.Refusals.{status_of_step}
use Rattle.c_answers.specs.Whole.{is_whole}
use Rattle.c_answers.specs.declared.status.Status.{Status}
use Rattle.c_endpoint.specs.Packets.{IsUntaken, Reads, RefusesPacket, TakesPacket, Unread, refuses, replies_of}
use Rattle.c_endpoint.specs.declared.replies.PacketReplies.{PacketReplies}

accepted_of : (bad : Option BadStep) (taken answer : Taken) → Ok answer ≡ taken_by bad taken → bad ≡ None
accepted_of None taken answer is = refl
accepted_of (Some bad) taken answer is = absurd (cc is)

answer_of : (bad : Option BadStep) (taken answer : Taken) → Ok answer ≡ taken_by bad taken → answer ≡ taken
answer_of None taken answer is = cc is
answer_of (Some bad) taken answer is = absurd (cc is)

refused_of : (bad : Option BadStep) (taken : Taken) (why : BadStep) → Err why ≡ taken_by bad taken → bad ≡ Some why
refused_of None taken why is = absurd (cc is)
refused_of (Some bad) taken why is = sym (cc is)

-- it took the packet
pub takes : (held inner : EndpointState) (offset : ℕ) (words : List ℕ) (packet : Packet) (answer : Taken) (written : List ℕ)
    (replies : PacketReplies) (after : EndpointState) → inner ≡ held → Reads words packet → Ok answer ≡ taken_in inner offset packet
    → AddsPackets (replies_in inner packet) [] written → replies ≡ replies_of packet answer (length written)
    → after ≡ after_packet offset packet inner → TakesPacket held offset words written replies after
takes held inner offset words packet answer written replies after same read is adds told later =
    subst (λ held. TakesPacket held offset words written replies after) same
    (record {
      packet = packet;
      read = read;
      replied = record {
        accepted = accepted_of (refusal_in inner packet) _ answer is;
        words = adds;
        told = told ∙ ap (λ taken. replies_of packet taken (length written)) (answer_of (refusal_in inner packet) _ answer is);
      };
      after_is = later;
    })

-- it refused the packet
pub untaken : (held inner : EndpointState) (offset : ℕ) (words : List ℕ) (packet : Packet) (bad : BadStep) (why : Status)
    (after : EndpointState) → inner ≡ held → Reads words packet → Err bad ≡ taken_in inner offset packet → why ≡ status_of_step bad
    → after ≡ after_packet offset packet inner → RefusesPacket held offset words why after
untaken held inner offset words packet bad why after same read is why_is later =
    let U : IsUntaken inner offset words why after = record {
      packet = packet;
      bad = bad;
      read = read;
      refused = refused_of (refusal_in inner packet) _ bad is;
      why_is = why_is;
      after_is = later;
    } in
    subst (λ held. RefusesPacket held offset words why after) same
    (subst (λ whole. refuses whole (reason words) inner offset words why after) (sym read.whole)
    (subst (λ bad. refuses true bad inner offset words why after) (sym read.fine) U))

-- no packet has the words
pub unread : (whole : Bool) (bad : Option Bad) (held : EndpointState) (offset : ℕ) (words : List ℕ) (why : Status)
    → Unread whole bad why → refuses whole bad held offset words why held
unread false bad held offset words why is = (is, refl)
unread true (Some bad) held offset words why is = (is, refl)
unread true None held offset words why is = absurd is
