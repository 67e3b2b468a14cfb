pub mod Failures
pub mod Codes
mod ExamplesTyping
mod ExamplesModule
mod Modules
mod ExampleNumbers
mod ExampleAggregates
mod ExampleTables
mod ExampleControl
mod ExampleBoundary
pub mod Sames
pub mod Grows
pub mod More
pub mod Trees
pub mod Cuts
pub mod CutShaped
pub mod CutValid
pub mod GoodTypes
pub mod Has
pub mod Stores
pub mod ActRows
pub mod ActNumbers
pub mod ActTables
pub mod References
pub mod Objects
pub mod ActObjects
pub mod Moments
pub mod Leaves
pub mod Branches
pub mod Calls
pub mod Never
pub mod Plays
pub mod Bodies
pub mod Enters
pub mod Serves
pub mod Levels
pub mod Constants
pub mod Initial
pub mod Copies
pub mod Openings
pub mod Instances
pub mod Comps
pub mod Sound
pub mod Places
pub mod Twins
pub mod Parts
