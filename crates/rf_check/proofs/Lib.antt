pub mod CheckingLemmas
pub mod GoingOn
pub mod KeptLemmas
pub mod RejectedLemmas
pub mod VerdictLaws
pub mod VerifierLemmas
