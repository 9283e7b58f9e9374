use Rattle.midi_meaning.proofs.Styles.{plain_over, styled_pairs-more}
use Rattle.midi_meaning.proofs.style_laws.styled_pairs_come_packet_by_packet.Goals as goal

pub returns : goal.returns
returns c = λ paired. record { more = styled_pairs-more paired; plain = plain_over paired }
