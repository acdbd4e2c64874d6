mod FilledLaws
mod AfterLaws
mod ListAtLaws
mod Determined
mod BoundaryLaws
mod Worked
