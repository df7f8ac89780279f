-- The elements of a field at the lanes of its planes, as lanewise has them for any field.
unfoldable pub use Rattle.lanewise.specs.Elements.{element}
pub use Rattle.lanewise.specs.Elements.{element-lane, element-like, element-xor, Carries, carries-by, carries-tested}
