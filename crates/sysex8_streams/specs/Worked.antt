-- Worked rows: the definitions, computed. No contract of a public call cites them, except a law.
pub mod Rows
