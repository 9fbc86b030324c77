pub mod RangeTables
