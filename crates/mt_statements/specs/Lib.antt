pub mod Query
pub mod QueryDescent
pub mod QueryInside
pub mod Within
pub mod Change
pub mod ChangeDescent
pub mod ChangeInside
