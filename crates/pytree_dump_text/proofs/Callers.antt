-- What callers cite of what an appended text means.
pub mod Results
