pub mod BlockSums
pub mod SeasonBlocks
pub mod SeasonsPromise
pub mod ExactYear
pub mod BandsWithin
pub mod SameLayout
