-- What a control change is by its index (MIDI 1.0 Detailed Specification, the table of controller numbers).
use Rattle.std.specs.Prelude.{ℕ, nat_le, ◌==◌, Bool, true, false, if◌then◌else◌, Option, Some, None}
use Rattle.voice_messages.specs.declared.voice2.ParamKind.{ParamKind}
use Rattle.voice_messages.specs.declared.voice2.ParamKind.TheVariants.{Registered, Assignable}

pub data Role : Type 0 where
  bank_msb : Role
  bank_lsb : Role
  data_msb : Role
  data_lsb : Role
  data_increment : Role
  data_decrement : Role
  number_msb : ParamKind → Role
  number_lsb : ParamKind → Role
  reset_all : Role
  channel_mode : Role
  coarse : Role
  fine : Role
  plain : Role

-- 120 to 127 are channel mode messages; 121 among them resets all controllers. Of the other controllers 1 to
-- 31 are MSBs, and 33 to 63 their LSBs.
unfoldable pub role_of : ℕ → Role
role_of index =
    if index == 0 then bank_msb
    else if index == 32 then bank_lsb
    else if index == 6 then data_msb
    else if index == 38 then data_lsb
    else if index == 96 then data_increment
    else if index == 97 then data_decrement
    else if index == 98 then number_lsb Assignable
    else if index == 99 then number_msb Assignable
    else if index == 100 then number_lsb Registered
    else if index == 101 then number_msb Registered
    else if index == 121 then reset_all
    else if nat_le 120 index then channel_mode
    else if nat_le index 31 then coarse
    else if nat_le index 63 then fine
    else plain

-- Own rule: MSBs and LSBs of controllers differ from other controllers only if controllers are paired.
abbrev pub pairing : Bool → Role → Role
pairing paired coarse = if paired then coarse else plain
pairing paired fine = if paired then fine else plain
pairing paired role = role

-- A control change that only gives a controller its value, or is a channel mode message other than the reset.
-- It selects, enters and resets nothing, and is no half of a pair.
abbrev pub is_direct : Role → Bool
is_direct channel_mode = true
is_direct plain = true
is_direct _ = false

-- the same by the index, with controllers paired or not; for `None` no control change is direct
abbrev pub is_direct_in : Option Bool → ℕ → Bool
is_direct_in None index = false
is_direct_in (Some paired) index = is_direct (pairing paired (role_of index))

-- the indexes of a parameter's number
abbrev pub number_msb_index : ParamKind → ℕ
number_msb_index Registered = 101
number_msb_index Assignable = 99

abbrev pub number_lsb_index : ParamKind → ℕ
number_lsb_index Registered = 100
number_lsb_index Assignable = 98
