-- Direct control changes by their index.
use Rattle.std.proofs.Common.{ℕ, ◌≡◌, ◌/◌, refl, Bool}
use Rattle.std.specs.Prelude.{◌&&◌, not}
use Rattle.encoded_packets.specs.declared.direct_message.DirectKind.{DirectKind}
use Rattle.encoded_packets.specs.declared.direct_message.DirectKind.TheVariants as direct
use Rattle.encoded_packets.specs.declared.direct_message.DirectMessage.{DirectMessage}
use Rattle.encoded_packets.specs.DirectMessages.{kind_by}
use Rattle.midi_meaning.specs.Controllers.{is_direct, is_direct_in, pairing, role_of}
use Rattle.midi_meaning.specs.Styles.{Style, plain_style, compact_style}
use Rattle.down_translator.specs.KeptLanes.{is_plain, when_compact, when_plain}
use Rattle.down_translator.specs.Lowered.{goes_by, index_by, message_goes_direct}

pub direct_when_plain : (style : Style) (paired : Bool) (index : ℕ) →
    is_direct_in (when_plain style paired) index ≡ (is_plain style && is_direct (pairing paired (role_of index)))
direct_when_plain plain_style paired index = refl
direct_when_plain compact_style paired index = refl

pub direct_when_compact : (style : Style) (paired : Bool) (index : ℕ) →
    is_direct_in (when_compact style paired) index ≡ (not (is_plain style) && is_direct (pairing paired (role_of index)))
direct_when_compact plain_style paired index = refl
direct_when_compact compact_style paired index = refl

-- 64 is the index of a direct control change
direct_by : (kind : DirectKind) (paired : Bool) (m : DirectMessage)
    → is_direct (pairing paired (role_of (index_by kind m))) ≡ goes_by kind paired m
unfolding role_of
direct_by direct.NoteOff paired m = refl
direct_by direct.NoteOn paired m = refl
direct_by direct.PolyPressure paired m = refl
direct_by direct.Control paired m = refl
direct_by direct.Pressure paired m = refl
direct_by direct.Bend paired m = refl
direct_by direct.Other paired m = refl

pub direct_index : (paired : Bool) (m : DirectMessage) →
    is_direct (pairing paired (role_of (index_by (kind_by (m.status / 16)) m))) ≡ message_goes_direct paired m
direct_index paired m = direct_by (kind_by (m.status / 16)) paired m
