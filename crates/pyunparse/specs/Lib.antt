pub mod Inner
pub mod RoundTrips
