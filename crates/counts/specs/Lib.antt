-- What contracts say of counts of faults.
pub mod Count
