-- Both check words fit their words of 16 bits, with the start value.
-- Assumes nothing.
use Rattle.pec.specs.Remainder.{Fitting}
use Rattle.pec.specs.Words.{polynomial15, polynomial10}
use Rattle.std.proofs.Common.{lit<}

pub fitting_15 : Fitting 15 polynomial15 16
fitting_15 = record { width = lit< tt; polynomial = lit< tt; below = lit< tt }

pub fitting_10 : Fitting 10 polynomial10 16
fitting_10 = record { width = lit< tt; polynomial = lit< tt; below = lit< tt }
