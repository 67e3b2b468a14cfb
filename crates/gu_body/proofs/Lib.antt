pub mod CutStep
