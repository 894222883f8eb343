-- What a rule means, its code, and what is stated of them.

-- from trees to rules: what the checks accept
pub mod Rule
pub mod Types
pub mod Statements
pub mod Sizes
pub mod Stages
pub mod Typing
-- the meaning of a rule, and its code
pub mod Objects
pub mod Meaning
pub mod Code
-- what is true of accepted rules
pub mod Sound
pub mod Small
pub mod Accepted
pub mod Lawful
pub mod Short
-- laws, the agreement of meaning and run, and lives
pub mod Laws
pub mod MeaningLaws
pub mod Agreement
pub mod Lives
pub mod Clauses
-- the two halves of the agreement, and the evaluation between them
pub mod Evaluation
pub mod Halves
-- worked cases
pub mod CaseTrees
pub mod Cases
