pub mod Words
pub mod SameReads
pub mod InOrder
pub mod Histories
pub mod TwoStores
pub mod Longer
pub mod Growth
pub mod BothGrowth
pub mod KeyCalls
pub mod Zeros
pub mod HashBlank
pub mod TreeBlank
pub mod FileBlank
pub mod Programs
pub mod HashWrites
pub mod TreeWrites
pub mod BothCalls
pub mod FileWrites
pub mod Looking
mod Rows
mod ScanRows
pub mod PutAndGet
pub mod PutAndScan
pub mod BothInTx
mod Skew
