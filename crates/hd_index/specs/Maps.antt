-- The index as an ordered map from root keys to addresses.
pub use Rattle.hd_index_blocks.specs.Maps.{address_of, address_from, with_entry, without_key, with_address}
