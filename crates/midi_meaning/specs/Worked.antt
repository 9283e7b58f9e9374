-- Worked rows: the definitions, computed. Of the contracts of public calls, only those of laws cite them.
pub mod CompactRows
pub mod MeaningRows
pub mod PairedRows
pub mod Rows
