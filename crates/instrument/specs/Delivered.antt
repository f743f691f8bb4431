-- The instrument that is lent: an outline and the successor sets beside it.
use Rattle.instrument.specs.declared.Instrument.{Instrument}
use Rattle.instrument.specs.declared.delivery.Delivery.{Delivery}
use Rattle.instrument.specs.Outline.{whole}

abbrev pub delivered : Delivery → Instrument
delivered t = whole t.outline.now t.nexts.now
