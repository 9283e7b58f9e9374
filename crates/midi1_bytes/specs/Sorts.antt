-- What a byte of a MIDI 1.0 stream is (MIDI 1.0 Detailed Specification, summary of status bytes).
use Rattle.std.specs.Prelude.{ℕ, nat_lt, ◌==◌, Bool, true, false, if◌then◌else◌, Option, Some, None}

-- how many data bytes a message has
pub data Count : Type 0 where
  one : Count
  two : Count

abbrev pub data_count : Count → ℕ
data_count one = 1
data_count two = 2

-- the status of a channel voice or system common message with the number of its data bytes
pub data Sort : Type 0 where
  data_byte : Sort
  voice_status : Count → Sort
  exclusive_start : Sort
  common_status : Count → Sort
  tune_request : Sort
  undefined_status : Sort
  exclusive_end : Sort
  real_time_status : Sort
  undefined_real_time : Sort

unfoldable pub sort_of : ℕ → Sort
sort_of byte =
    if nat_lt byte 0x80 then data_byte
    else if nat_lt byte 0xc0 then voice_status two
    else if nat_lt byte 0xe0 then voice_status one
    else if nat_lt byte 0xf0 then voice_status two
    else if byte == 0xf0 then exclusive_start
    else if byte == 0xf2 then common_status two
    else if nat_lt byte 0xf4 then common_status one
    else if nat_lt byte 0xf6 then undefined_status
    else if byte == 0xf6 then tune_request
    else if byte == 0xf7 then exclusive_end
    else if byte == 0xf9 then undefined_real_time
    else if byte == 0xfd then undefined_real_time
    else real_time_status

abbrev pub is_data : Sort → Bool
is_data data_byte = true
is_data _ = false

abbrev pub is_real_time : Sort → Bool
is_real_time real_time_status = true
is_real_time undefined_real_time = true
is_real_time _ = false

-- how many data bytes a message of this status has
abbrev pub count_of : Sort → Option Count
count_of (voice_status count) = Some count
count_of (common_status count) = Some count
count_of _ = None
