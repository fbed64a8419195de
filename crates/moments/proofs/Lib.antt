-- Where the totals are the rules' own.
pub mod TotalsRuled
