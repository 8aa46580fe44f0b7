-- How facts are kept.
use Rattle.std.specs.Coded.{Coded, coded×, coded_list}
use Rattle.brisk_values.specs.Places.{coded_name, coded_value}
use Rattle.brisk_facts.specs.Facts.{Facts}

abbrev pub coded_facts : Coded Facts
coded_facts = coded_list (coded× (coded× coded_name coded_name) coded_value)
