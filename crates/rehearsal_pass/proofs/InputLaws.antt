-- What is put for the events of an input is what the course of the rehearsal tells.
use Rattle.std.proofs.Common.{◌≡◌, ℕ, List, [], ◌∷◌, ◌++◌, Option, None, Some, ap, ◌∙◌, subst}
use Rattle.std.specs.Prelude.{IfSome, reverse}
use Rattle.std.proofs.lemmas.List.Concat.{flat_map-append}
use Rattle.function_blocks.specs.Setups.{SetupData}
use Rattle.pass_loop.specs.Pass.{ArePut}
use Rattle.pass_loop.specs.Places.{Places, with_more}
use Rattle.pass_loop.specs.Put.{Put, output_in, output_of}
use Rattle.rehearsal_pass.specs.declared.event.CalledEvent.{CalledEvent}
use Rattle.rehearsal_pass.specs.Events.{called_cutting}
use Rattle.rehearsal_pass.specs.Laws.{DoneRehearsesTheInput, lines_of}
use Rattle.rehearsal_pass.specs.Rehearse.{rehearsing}

output-is : (setup : SetupData) (past : List (ℕ × CalledEvent)) (puts : List Put) → ArePut (rehearsing setup) past puts
    → output_in puts ≡ lines_of setup past
output-is setup [] puts put = ap output_in put
output-is setup (item ∷ past) puts put =
    ap output_in put.4
    ∙ flat_map-append output_of put.0 put.1
    ∙ ap (λ xs. xs ++ output_in put.1) (output-is setup past put.0 put.2)
    ∙ ap (λ ps. lines_of setup past ++ output_in ps) put.3

pub rehearses_the_input : DoneRehearsesTheInput
rehearses_the_input = λ setup bytes old new told done.
    let C : Option (List ℕ) → Type 0 = λ left. IfSome left (λ b. called_cutting b done.items None × (new.left ≡ Some [])) in
    let cut = subst C told done.cut in
    let items : List (ℕ × CalledEvent) = done.items in
    record {
      items = items;
      cut = cut.0;
      output =
          ap (λ (s : Places). s.output) done.places
          ∙ ap (with_more old.places.output)
          (flat_map-append output_of done.puts done.last
          ∙ ap (λ xs. xs ++ output_in done.last) (output-is setup (reverse items) done.puts done.done.put)
          ∙ ap (λ ps. lines_of setup (reverse items) ++ output_in ps) done.at_end);
      held = done.done.meaning;
      left = cut.1;
    }
