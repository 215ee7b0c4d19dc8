pub mod CodeRows
pub mod LayRows
pub mod PieceRows
pub mod PlanRows
