pub mod StampsByStep
