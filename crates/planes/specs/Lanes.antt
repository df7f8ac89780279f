-- Values in bit planes, as lanewise has them for any number of planes.
unfoldable pub use Rattle.lanewise.specs.Lanes.{lane}
pub use Rattle.lanewise.specs.Lanes.{Planes, lane-lt, bit_at-lane, lane-by, lane-like, lane-zero, lane_xor, lane-down, lane-up, lane_under, lane-kept, lane-emptied, lanewise}
