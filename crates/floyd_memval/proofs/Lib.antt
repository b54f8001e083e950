pub mod DecodingLemmas
pub mod EncodingLemmas
pub mod FragmentLaws
pub mod NumberLaws
pub mod RoundTrips
