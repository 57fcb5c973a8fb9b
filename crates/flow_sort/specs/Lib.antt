pub mod Sorted
pub mod Sort
pub mod SortLaws
pub mod Meanings
