pub mod ClaimsBy
