-- The puts of lines of the listing.
use Rattle.std.specs.Prelude.{List, map}
use Rattle.listing_terms.specs.declared.listed.Listed.{Listed}
use Rattle.text_lines.specs.ListingLines.{listing_text}
use Rattle.pass_loop.specs.Put.{Put, in_notes}

abbrev pub line_puts : List Listed → List Put
line_puts lines = map (λ line. in_notes (listing_text line)) lines
