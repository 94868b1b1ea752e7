mod SortedLaws
mod DistinctSorted
mod JoinedLaws
mod Forms
