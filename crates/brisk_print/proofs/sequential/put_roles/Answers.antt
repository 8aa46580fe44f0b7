use Rattle.std.proofs.lemmas.Simd.{map-map}
use Rattle.brisk_syntax.specs.Texts.{text_of}
use Rattle.brisk_print.specs.Layout.{declared_role}
use Rattle.brisk_print.proofs.sequential.put_roles.Goals as goal

pub returns : goal.returns
returns c = rw (← c.roles.view_is, map-map declared_role text_of c.roles.inside.items.items, ← c.deref.ensures.value) c.put_all.ensures
