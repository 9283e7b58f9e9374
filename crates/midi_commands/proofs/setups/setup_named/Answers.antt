use Rattle.std.proofs.Common.{◌≡◌, ◌∙◌}
use Rattle.midi_commands.specs.Run.{shelf_seen}
use Rattle.function_blocks.specs.Setups.{setup_of}
use Rattle.function_blocks.specs.declared.rules.SetupFault.TheVariants.{Field, NoMemory, Syntax}
use Rattle.midi_commands.proofs.SetupLaws.{fault_is, read_setup, shelf_is}
use Rattle.midi_commands.proofs.setups.setup_named.Goals as goal

pub returns-in-Ok-read : goal.returns-in-Ok-read
returns-in-Ok-read g c =
    let old = shelf_seen g.K.Shelf c.args.shelf.now in
    let read =
    read_setup old c.args.name.now c.new-text.result.items c.fetch_setup.new.text.items c.as_slice.result.now c.new-text.ensures.items
    c.as_slice.ensures.value c.in-Ok.ensures.front in (
      read.0,
      read.1,
      read.2 ∙ c.in-Ok-read.ensures.setup,
      shelf_is old c.args.name.now _ _ _ c.in-Ok.ensures.asked c.in-Ok.ensures.texts c.in-Ok.ensures.cause.kept,
    )

pub returns-in-Err-Syntax : goal.returns-in-Err-Syntax
returns-in-Err-Syntax g c =
    let old = shelf_seen g.K.Shelf c.args.shelf.now in
    let read =
    read_setup old c.args.name.now c.new-text.result.items c.fetch_setup.new.text.items c.as_slice.result.now c.new-text.ensures.items
    c.as_slice.ensures.value c.in-Ok.ensures.front in (
      read.0,
      read.1,
      read.2
          ∙ fault_is (setup_of c.as_slice.result.now) c.in-Err-Syntax.field-0 Syntax c.in-Err-Syntax.field-0-is
          (λ h. let e : Syntax ≡ NoMemory = h in cc) c.in-Err-Syntax.ensures.setup,
      shelf_is old c.args.name.now _ _ _ c.in-Ok.ensures.asked c.in-Ok.ensures.texts c.in-Ok.ensures.cause.kept,
    )

pub returns-in-Err-Field : goal.returns-in-Err-Field
returns-in-Err-Field g c =
    let old = shelf_seen g.K.Shelf c.args.shelf.now in
    let read =
    read_setup old c.args.name.now c.new-text.result.items c.fetch_setup.new.text.items c.as_slice.result.now c.new-text.ensures.items
    c.as_slice.ensures.value c.in-Ok.ensures.front in (
      read.0,
      read.1,
      read.2
          ∙ fault_is (setup_of c.as_slice.result.now) c.in-Err-Field.field-0 (Field c.in-Err-Field.rule) c.in-Err-Field.field-0-is
          (λ h. let e : Field c.in-Err-Field.rule ≡ NoMemory = h in cc) c.in-Err-Field.ensures.setup,
      shelf_is old c.args.name.now _ _ _ c.in-Ok.ensures.asked c.in-Ok.ensures.texts c.in-Ok.ensures.cause.kept,
    )
