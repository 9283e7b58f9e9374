use Rattle.std.proofs.Common.{◌≡◌, ◌+◌, ◌<◌, ◌∷◌, [], ◌++◌, ℕ, List, take, drop, ap, sym, ◌∙◌, subst, arith}
use Rattle.std.specs.Option.{option_to_list}
use Rattle.std.proofs.lemmas.Result.{err_from_is_err_and}
use Rattle.sysex_groups.specs.Table.{Table}
use Rattle.listing_terms.specs.ExclusiveLines.{groups}
use Rattle.pass_loop.specs.Put.{Put}
use Rattle.pass_loop.specs.Places.{FailsAt, over_puts}
use Rattle.pass_loop.specs.ForProofs.PutLaws.{then_put, then_stops, stops_more}
use Rattle.listing_lines.specs.Lines.{line_puts}
use Rattle.listing_lines.specs.Open.{open_line, open_puts}
use Rattle.listing_lines.specs.ForProofs.OpenLaws.{at_group, next_group, open-then, open-one}
use Rattle.listing_lines.proofs.open.list_open.Goals as goal

pub loop-number-preserved : goal.loop-number-preserved
loop-number-preserved g c =
    let n : ℕ = c.loop-number.number in
    let below : n < 16 = omega arith in
    let number : c.low_bits.result ≡ n = omega (arith, c.low_bits.ensures) in
    let state : Table = g.H.OpenExclusives.table c.args.held.now in
    let old = g.O.Outputs.places c.args.outputs.now in
    let mid = g.O.Outputs.places c.loop-number.outputs in
    let new = g.O.Outputs.places c.list_group.new.outputs in
    let N : ℕ → Type 0 = λ group. new ≡ over_puts (line_puts (option_to_list (open_line state group))) mid in
    let D : List Put → Type 0 = λ puts. new ≡ over_puts puts old in
    let all : open_puts state (take n groups) ++ line_puts (option_to_list (open_line state n)) ≡ open_puts state (take (n + 1) groups) =
    ap (λ puts. open_puts state (take n groups) ++ puts) (sym (open-one state n))
    ∙ sym (open-then state (take n groups) (n ∷ []))
    ∙ ap (open_puts state) (sym (next_group n below)) in
    subst D all (then_put (open_puts state (take n groups)) (line_puts (option_to_list (open_line state n))) old mid new
    c.loop-number.invariant (subst N number c.in_ok-list_group.ensures))

pub returns-in_err-list_group : goal.returns-in_err-list_group
returns-in_err-list_group g c =
    let end = c.in_err-list_group.field-0.0 in
    let n : ℕ = c.loop-number.number in
    let below : n < 16 = omega arith in
    let number : c.low_bits.result ≡ n = omega (arith, c.low_bits.ensures) in
    let state : Table = g.H.OpenExclusives.table c.args.held.now in
    let old = g.O.Outputs.places c.args.outputs.now in
    let mid = g.O.Outputs.places c.loop-number.outputs in
    let new = g.O.Outputs.places c.list_group.new.outputs in
    let one : List Put = line_puts (option_to_list (open_line state n)) in
    let rest : List Put = open_puts state (drop (n + 1) groups) in
    let N : ℕ → Type 0 = λ group. FailsAt (line_puts (option_to_list (open_line state group))) end mid new in
    let S : List Put → Type 0 = λ puts. FailsAt puts end old new in
    let all : open_puts state (take n groups) ++ (one ++ rest) ≡ open_puts state groups =
    ap (λ puts. open_puts state (take n groups) ++ (puts ++ rest)) (sym (open-one state n))
    ∙ ap (λ puts. open_puts state (take n groups) ++ puts) (sym (open-then state (n ∷ []) (drop (n + 1) groups)))
    ∙ sym (open-then state (take n groups) (n ∷ drop (n + 1) groups))
    ∙ ap (open_puts state) (sym (at_group n below)) in
    let p = err_from_is_err_and c.from_residual.result c.from_residual.ensures.1 in
    rw (p.1, p.2) (subst S all (then_stops (open_puts state (take n groups)) (one ++ rest) end old mid new c.loop-number.invariant
    (stops_more one rest end mid new (subst N number c.in_err-list_group.ensures))))
